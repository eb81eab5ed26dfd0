use Rattle.hurd_core.specs.Core.{world_of}
use Rattle.hurd_can.proofs.DatedLaws.{seen_by}
use Rattle.hurd_can.proofs.dating.is_seen_so.Goals as goal

pub returns : goal.returns
returns g c =
    seen_by (world_of g.S.Server.meaning c.args.core.now) c.args.tasks.now c.in_ok-view.view.value c.args.last.now c.args.part c.saw_as.result (rw c.in_ok-view.ensures.ok c.in_ok-of.ensures) (rw c.deref.ensures at c.saw_as.ensures)
