use Rattle.std.proofs.Common.{ap}
use Rattle.hurd_views.specs.declared.rows.NodeRow.{NodeRow}
use Rattle.hurd_looks.proofs.MeetLaws.{ok_then, pairs_as, pairs_both, pairs_never, pairs_no, said_no, said_yes}
use Rattle.hurd_looks.proofs.SplitLaws.{node_split}
use Rattle.hurd_looks.proofs.rows.NodeRowMeet.meet.Goals as goal

pub returns-then-not-is_same : goal.returns-then-not-is_same
returns-then-not-is_same c = pairs_never _ (λ g e. said_no c.is_same.ensures c.if-not-is_same.true (ap (λ (r : NodeRow). r.words) e)) _ _

pub returns-then-not-branch : goal.returns-then-not-branch
returns-then-not-branch c = pairs_no _ _ (λ g e. ap (λ (r : NodeRow). r.attrs) e) _ _ _ c.if-not-branch.true c.in_ok-meet.ensures

pub returns-then-not-branch-2 : goal.returns-then-not-branch-2
returns-then-not-branch-2 c =
    pairs_no _ _ (λ g e. (ap (λ (r : NodeRow). r.attrs) e, ap (λ (r : NodeRow). r.home) e)) _ _ _ c.if-not-branch-2.true
    (pairs_both _ _ _ _ _ _ _ c.if-not-branch.false c.in_ok-meet.ensures c.in_ok-meet-2.ensures)

pub returns : goal.returns
returns c =
    let same = said_yes c.is_same.ensures c.if-not-is_same.false in
    ok_then _ _ (λ met h. pairs_as _ _ (λ g. node_split g c.args.self.now c.args.other.now same) _ met _
    (pairs_both _ _ _ _ _ met _ c.if-not-branch.false c.in_ok-meet.ensures (pairs_both _ _ _ _ _ met _ c.if-not-branch-2.false c.in_ok-meet-2.ensures h))) c.meet-3.result c.meet-3.ensures
