-- No more is touched than what goes with the port.
use Rattle.hurd_core.specs.Core.{world_of}
use Rattle.hurd_touches.proofs.AddsLaws.{adds_less}
use Rattle.hurd_touches.proofs.PortLaws.{startup_port}
use Rattle.hurd_touches.proofs.noted.Noted.add_touched.Goals as goal

pub returns-in-FsysStartup : goal.returns-in-FsysStartup
returns-in-FsysStartup g c = rw c.in-FsysStartup.is (adds_less _ _ _ _ c.add_started.ensures (startup_port (world_of g.S.Server.meaning c.args.core.now) c.args.task.0 (g.S.Server.meaning c.in-FsysStartup.server)))
