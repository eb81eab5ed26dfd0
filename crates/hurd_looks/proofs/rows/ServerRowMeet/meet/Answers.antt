use Rattle.std.proofs.Common.{ap}
use Rattle.hurd_views.specs.declared.rows.ServerRow.{ServerRow}
use Rattle.hurd_looks.proofs.MeetLaws.{ok_then, pairs_as, pairs_both, pairs_never, pairs_no, said_no, said_yes}
use Rattle.hurd_looks.proofs.SplitLaws.{server_program, server_split}
use Rattle.hurd_looks.proofs.rows.ServerRowMeet.meet.Goals as goal

pub returns-then-not-same_program : goal.returns-then-not-same_program
returns-then-not-same_program c = pairs_never _ (λ g e. said_no c.same_program.ensures c.if-not-same_program.true (server_program g c.args.self.now c.args.other.now e)) _ _

pub returns-then-not-branch : goal.returns-then-not-branch
returns-then-not-branch c = pairs_no _ _ (λ g e. ap (λ (r : ServerRow). r.root) e) _ _ _ c.if-not-branch.true c.in_ok-meet.ensures

pub returns : goal.returns
returns c =
    let same = said_yes c.same_program.ensures c.if-not-same_program.false in
    ok_then _ _ (λ met h. pairs_as _ _ (λ g. server_split g c.args.self.now c.args.other.now same) _ met _
    (pairs_both _ _ _ _ _ met _ c.if-not-branch.false c.in_ok-meet.ensures (rw (c.as_slice.ensures, c.as_slice-2.ensures) at h))) c.meet_all.result c.meet_all.ensures
