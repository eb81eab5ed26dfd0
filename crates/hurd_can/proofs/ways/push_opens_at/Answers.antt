use Rattle.std.proofs.Common.{◌∙◌, ◌+◌, arith, ap, drop, sym, ℕ, List}
use Rattle.hurd_can.specs.Ways.{opens_at}
use Rattle.hurd_can.proofs.SaidLaws.{drop_next}
use Rattle.hurd_can.proofs.ways.push_opens_at.Goals as goal

pub loop-member-preserved : goal.loop-member-preserved
loop-member-preserved c =
    let i = c.loop-member.member-index in
    ap (λ (ls : List (List ℕ)). opens_at c.args.roots c.args.path.now ls (drop (i + 1) c.args.members.now)) (rw c.member-item.is at c.in_ok-push_opened.ensures)
    ∙ (sym (ap (λ (ms : List (List ℕ)). opens_at c.args.roots c.args.path.now c.loop-member.lines.items ms) (drop_next c.args.members.now i _ (omega arith))) ∙ c.loop-member.invariant)
