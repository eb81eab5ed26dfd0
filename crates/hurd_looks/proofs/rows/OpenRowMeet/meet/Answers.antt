use Rattle.std.proofs.Common.{ap}
use Rattle.hurd_views.specs.declared.rows.OpenRow.{OpenRow}
use Rattle.hurd_looks.proofs.MeetLaws.{ok_then, pairs_as, pairs_never}
use Rattle.hurd_looks.proofs.SplitLaws.{open_split}
use Rattle.hurd_looks.proofs.rows.OpenRowMeet.meet.Goals as goal

pub returns-then-self-other : goal.returns-then-self-other
returns-then-self-other c = pairs_never _ (λ g e. c.if-self-other.true (ap (λ (r : OpenRow). r.holders) e)) _ _

pub returns : goal.returns
returns c = ok_then _ _ (λ met h. pairs_as _ _ (λ g. open_split g c.args.self.now c.args.other.now c.if-self-other.false) _ met _ h) c.meet.result c.meet.ensures
