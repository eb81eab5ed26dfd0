use Rattle.std.proofs.Common.{ap}
use Rattle.hurd_views.specs.declared.rows.Row.{Row}
use Rattle.hurd_looks.proofs.MeetLaws.{ok_then, pairs_as, pairs_both, pairs_never, pairs_no, said_no, said_yes}
use Rattle.hurd_looks.proofs.SplitLaws.{row_beside, row_split}
use Rattle.hurd_looks.proofs.rows.RowMeet.meet.Goals as goal

pub returns-then-not-same_beside : goal.returns-then-not-same_beside
returns-then-not-same_beside c = pairs_never _ (λ g e. said_no c.same_beside.ensures c.if-not-same_beside.true (row_beside g c.args.self.now c.args.other.now e)) _ _

pub returns-then-not-branch : goal.returns-then-not-branch
returns-then-not-branch c = pairs_no _ _ (λ g e. ap (λ (r : Row). r.attributes) e) _ _ _ c.if-not-branch.true c.in_ok-meet.ensures

pub returns-then-not-branch-2 : goal.returns-then-not-branch-2
returns-then-not-branch-2 c =
    pairs_no _ _ (λ g e. (ap (λ (r : Row). r.attributes) e, ap (λ (r : Row). r.body) e)) _ _ _ c.if-not-branch-2.true
    (pairs_both _ _ _ _ _ _ _ c.if-not-branch.false c.in_ok-meet.ensures c.in_ok-meet-2.ensures)

pub returns-then-not-branch-3 : goal.returns-then-not-branch-3
returns-then-not-branch-3 c =
    pairs_no _ _ (λ g e. (ap (λ (r : Row). r.attributes) e, (ap (λ (r : Row). r.body) e, ap (λ (r : Row). r.opened) e))) _ _ _ c.if-not-branch-3.true
    (pairs_both _ _ _ _ _ _ _ c.if-not-branch.false c.in_ok-meet.ensures (pairs_both _ _ _ _ _ _ _ c.if-not-branch-2.false c.in_ok-meet-2.ensures c.in_ok-meet-3.ensures))

pub returns : goal.returns
returns c =
    let same = said_yes c.same_beside.ensures c.if-not-same_beside.false in
    ok_then _ _ (λ met h. pairs_as _ _ (λ g. row_split g c.args.self.now c.args.other.now same) _ met _
    (pairs_both _ _ _ _ _ met _ c.if-not-branch.false c.in_ok-meet.ensures (pairs_both _ _ _ _ _ met _ c.if-not-branch-2.false c.in_ok-meet-2.ensures
    (pairs_both _ _ _ _ _ met _ c.if-not-branch-3.false c.in_ok-meet-3.ensures h)))) c.meet-4.result c.meet-4.ensures
