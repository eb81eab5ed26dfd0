use Rattle.std.proofs.Common.{ap}
use Rattle.hurd_machine.proofs.Common.{Opened}
use Rattle.hurd_looks.proofs.MeetLaws.{ok_then, pairs_as, pairs_never, said_no, said_yes}
use Rattle.hurd_looks.proofs.SplitLaws.{opened_split}
use Rattle.hurd_looks.proofs.rows.OpenedMeet.meet.Goals as goal

pub returns-then-not-same_but_node : goal.returns-then-not-same_but_node
returns-then-not-same_but_node c =
    pairs_never _ (λ g e. said_no c.same_but_node.ensures c.if-not-same_but_node.true (ap (λ (o : Opened). o.cursor) e, ap (λ (o : Opened). o.modes) e)) _ _

pub returns : goal.returns
returns c =
    let same = said_yes c.same_but_node.ensures c.if-not-same_but_node.false in
    ok_then _ _ (λ met h. pairs_as _ _ (λ g. opened_split g c.args.self.now c.args.other.now same.0 same.1) _ met _ h) c.meet.result c.meet.ensures
