use Rattle.std.proofs.Common.{refl, sym, true≢false}
use Rattle.hurd_views.proofs.RowLaws.{agree_all, agree_next, row_here}
use Rattle.hurd_views.proofs.view.Rows.agrees.Goals as goal

pub loop-i-init : goal.loop-i-init
loop-i-init c n none = absurd (true≢false (sym none))

pub loop-i-preserved : goal.loop-i-preserved
loop-i-preserved c =
    agree_next c.args.self.now c.args.other.now c.loop-i.i (rw c.len-i-end.ensures at c.loop-i-test.true) c.loop-i.invariant (c.if-not-agrees_at.ensures.0 refl)

pub returns-then-not-agrees_at : goal.returns-then-not-agrees_at
returns-then-not-agrees_at c =
    (λ t. absurd (true≢false (sym t)), λ all. c.if-not-agrees_at.ensures.1 (λ e is. all e.0 (row_here c.args.self.now c.loop-i.i e is)))

pub returns : goal.returns
returns c = (λ t. agree_all c.args.self.now c.args.other.now c.loop-i.i (rw c.len-i-end.ensures at c.loop-i-test.false) c.loop-i.invariant, λ all. refl)
