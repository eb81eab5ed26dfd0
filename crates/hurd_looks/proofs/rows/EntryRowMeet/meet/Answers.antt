use Rattle.std.proofs.Common.{ap}
use Rattle.hurd_views.specs.declared.rows.EntryRow.{EntryRow}
use Rattle.hurd_looks.proofs.MeetLaws.{ok_then, pairs_as, pairs_never, said_no, said_yes}
use Rattle.hurd_looks.proofs.SplitLaws.{entry_split}
use Rattle.hurd_looks.proofs.rows.EntryRowMeet.meet.Goals as goal

pub returns-then-not-is_same : goal.returns-then-not-is_same
returns-then-not-is_same c = pairs_never _ (λ g e. said_no c.is_same.ensures c.if-not-is_same.true (ap (λ (r : EntryRow). r.name) e)) _ _

pub returns : goal.returns
returns c =
    ok_then _ _ (λ met h. pairs_as _ _ (λ g. entry_split g c.args.self.now c.args.other.now (said_yes c.is_same.ensures c.if-not-is_same.false)) _ met _ h) c.meet.result c.meet.ensures
