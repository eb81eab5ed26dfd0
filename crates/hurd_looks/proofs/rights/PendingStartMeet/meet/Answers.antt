use Rattle.std.proofs.Common.{ap}
use Rattle.hurd_machine.proofs.Common.{PendingStart}
use Rattle.hurd_looks.proofs.MeetLaws.{ok_then, pairs_as, pairs_never, said_no, said_yes}
use Rattle.hurd_looks.proofs.SplitLaws.{start_split}
use Rattle.hurd_looks.proofs.rights.PendingStartMeet.meet.Goals as goal

pub returns-then-not-is_same : goal.returns-then-not-is_same
returns-then-not-is_same c = pairs_never _ (λ g e. said_no c.is_same.ensures c.if-not-is_same.true (ap (λ (s : PendingStart). s.words) e)) _ _

pub returns : goal.returns
returns c =
    ok_then _ _ (λ met h. pairs_as _ _ (λ g. start_split g c.args.self.now c.args.other.now (said_yes c.is_same.ensures c.if-not-is_same.false)) _ met _ h) c.meet.result c.meet.ensures
