use Rattle.std.proofs.Common.{◌∙◌, sym}
use Rattle.hurd_looks.proofs.MeetLaws.{ok_then}
use Rattle.hurd_looks.proofs.LookLaws.{listed_at, row_both, row_no}
use Rattle.hurd_looks.proofs.looking.meet_row.Goals as goal

pub returns-then-not-branch : goal.returns-then-not-branch
returns-then-not-branch c = λ x y is at.
    row_no x y _ _ _ _ (listed_at c.args.some.now c.args.index _ x (sym c.name_at.ensures ∙ c.in-Some-Some.is-0) is) (listed_at c.args.others.now c.args.index _ y (sym c.name_at-2.ensures ∙ c.in-Some-Some.is-1) at)
    _ _ _ c.if-not-branch.true c.in_ok-meet.ensures

pub returns : goal.returns
returns c = ok_then _ _ (λ met h x y is at.
    row_both x y _ _ _ _ (listed_at c.args.some.now c.args.index _ x (sym c.name_at.ensures ∙ c.in-Some-Some.is-0) is) (listed_at c.args.others.now c.args.index _ y (sym c.name_at-2.ensures ∙ c.in-Some-Some.is-1) at)
    _ _ _ met _ c.if-not-branch.false c.in_ok-meet.ensures (rw (c.get.ensures, c.get-2.ensures) at h)) c.meet_seen.result c.meet_seen.ensures
