use Rattle.hurd_can.proofs.coulds.lines_of.Goals as goal

pub returns : goal.returns
returns g c = rw (c.as_slice.ensures.value, c.as_slice-2.ensures.value, c.as_slice-3.ensures.value, c.seats.ensures.all, c.ports.ensures, c.core.ensures) at c.lines.ensures
