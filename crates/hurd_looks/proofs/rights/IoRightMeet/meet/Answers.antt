use Rattle.std.proofs.Common.{ap}
use Rattle.hurd_machine.proofs.Common.{IoRight}
use Rattle.hurd_looks.proofs.MeetLaws.{ok_then, pairs_as, pairs_both, pairs_never, pairs_no, said_no, said_yes}
use Rattle.hurd_looks.proofs.SplitLaws.{io_split}
use Rattle.hurd_looks.proofs.rights.IoRightMeet.meet.Goals as goal

pub returns-then-not-is_same : goal.returns-then-not-is_same
returns-then-not-is_same c = pairs_never _ (λ g e. said_no c.is_same.ensures c.if-not-is_same.true (ap (λ (r : IoRight). r.ids) e)) _ _

pub returns-then-not-branch : goal.returns-then-not-branch
returns-then-not-branch c = pairs_no _ _ (λ g e. ap (λ (r : IoRight). r.node) e) _ _ _ c.if-not-branch.true c.in_ok-meet.ensures

pub returns-then-not-branch-2 : goal.returns-then-not-branch-2
returns-then-not-branch-2 c =
    pairs_no _ _ (λ g e. (ap (λ (r : IoRight). r.node) e, ap (λ (r : IoRight). r.open_name) e)) _ _ _ c.if-not-branch-2.true
    (pairs_both _ _ _ _ _ _ _ c.if-not-branch.false c.in_ok-meet.ensures c.in_ok-meet-2.ensures)

pub returns : goal.returns
returns c =
    let same = said_yes c.is_same.ensures c.if-not-is_same.false in
    ok_then _ _ (λ met h. pairs_as _ _ (λ g. io_split g c.args.self.now c.args.other.now same) _ met _
    (pairs_both _ _ _ _ _ met _ c.if-not-branch.false c.in_ok-meet.ensures (pairs_both _ _ _ _ _ met _ c.if-not-branch-2.false c.in_ok-meet-2.ensures (rw (c.as_slice.ensures.is, c.as_slice-2.ensures.is) at h)))) c.meet_all.result c.meet_all.ensures
