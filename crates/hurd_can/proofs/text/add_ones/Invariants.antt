use Rattle.std.proofs.Common.{◌≡◌, drop, map}
use Rattle.hurd_ports.specs.Seats.{seat_task}
use Rattle.hurd_can.specs.Could.{with_ones}
use Rattle.hurd_can.proofs.text.add_ones.Given as goal

-- with those that are left, these are all
abbrev pub invariant-loop-one : goal.invariant-loop-one
invariant-loop-one l = with_ones l.names (map seat_task l.seats) l.root l.text.items (drop l.one-index l.ones) ≡ with_ones l.names (map seat_task l.seats) l.root l.fn.text.items l.ones
