use Rattle.std.proofs.Common.{◌∙◌, ◌+◌, arith, ap, drop, sym, ℕ, List}
use Rattle.hurd_can.specs.Ways.{each_does}
use Rattle.hurd_can.proofs.SaidLaws.{drop_next}
use Rattle.hurd_can.proofs.ways.push_each.Goals as goal

pub loop-member-preserved : goal.loop-member-preserved
loop-member-preserved c =
    let i = c.loop-member.member-index in
    ap (λ (ls : List (List ℕ)). each_does c.args.word.now c.args.path.now ls (drop (i + 1) c.args.members.now)) (rw c.member-item.is at c.in_ok-push_line.ensures)
    ∙ (sym (ap (λ (ms : List (List ℕ)). each_does c.args.word.now c.args.path.now c.loop-member.lines.items ms) (drop_next c.args.members.now i _ (omega arith))) ∙ c.loop-member.invariant)
