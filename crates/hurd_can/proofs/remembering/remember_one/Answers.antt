use Rattle.hurd_core.specs.Core.{world_of}
use Rattle.hurd_can.proofs.RecallLaws.{one_noted}
use Rattle.hurd_can.proofs.remembering.remember_one.Goals as goal

pub returns : goal.returns
returns g c =
    one_noted c.args.last.now (world_of g.S.Server.meaning c.args.core.now) c.args.task c.in_ok-view.view.value c.args.all.now.items c.note_views.new.all.items c.note_views.result c.in_ok-view.ensures
    (rw c.deref.ensures at c.note_views.ensures)
