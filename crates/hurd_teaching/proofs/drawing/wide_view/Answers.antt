use Rattle.hurd_world.specs.Held.{world_of}
use Rattle.hurd_teaching.proofs.AideLaws.{aides_see}
use Rattle.hurd_teaching.proofs.PictureLaws.{said_so}
use Rattle.hurd_teaching.proofs.drawing.wide_view.Goals as goal

pub returns : goal.returns
returns g c =
    let rows = rw (c.ports.ensures, c.core.ensures) at c.seats-seats.ensures.all in
    let views = rw c.as_slice.ensures.value at c.view_of.ensures in
    said_so _ _ c.view_of.result
    (λ view is. aides_see (world_of g.S.Server.meaning c.args.world.now) c.args.learners.now.tasks.items c.in_ok-aides.aides.items c.seats-seats.result.now view.value rows c.in_ok-aides.ensures is)
    views
