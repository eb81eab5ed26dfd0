use Rattle.hurd_can.specs.Remembered.{row_of}
use Rattle.hurd_can.proofs.DatedLaws.{begun_since}
use Rattle.hurd_can.proofs.dating.since_in.Goals as goal

pub returns-in-Ok : goal.returns-in-Ok
returns-in-Ok g c =
    begun_since (row_of c.args.last.now c.args.part) c.args.tasks.now c.args.part g.T.Telling.sort c.args.text.now (g.T.Telling.way c.deref_mut.result.now) (rw (← c.deref_mut.ensures.value) at c.in-Ok.ensures.ok)
    c.since.result c.since.ensures
