-- What it is to start is given up.
use Rattle.hurd_core.specs.Core.{world_of}
use Rattle.hurd_fsys.proofs.StartupLaws.{fails_some}
use Rattle.hurd_fsys.proofs.starting.start_failed.Goals as goal

pub returns : goal.returns
returns g c = fails_some (world_of g.S.Server.meaning c.args.core.now) c.args.task.0 c.in-Some.field-0.now c.in-Some.ensures _ _ c.unpend.ensures
