use Rattle.std.proofs.Common.{◌∙◌}
use Rattle.hurd_can.proofs.EndLaws.{numbered}
use Rattle.hurd_can.proofs.coulds.could_at_end.Goals as goal

pub looked-requires : goal.looked-requires
looked-requires g c =
    rw c.as_slice.ensures.value (numbered c.seats.result.now c.world-world.result.now.core.ports.state.tasks c.in_ok-tasks.tasks.items (rw (c.ports.ensures, c.core.ensures) at c.seats.ensures.all) c.in_ok-tasks.ensures)

pub returns : goal.returns
returns g c = rw (c.world-world.ensures ∙ c.in_ok-play_silently.ensures) at c.looked.ensures
