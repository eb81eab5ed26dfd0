use Rattle.std.proofs.Common.{◌≡◌, drop, map}
use Rattle.hurd_ports.specs.Seats.{seat_task}
use Rattle.hurd_can.specs.Ways.{sets_of_one}
use Rattle.hurd_can.proofs.ways.add_ones.Given as goal

-- with those that are left, these are all
abbrev pub invariant-loop-one : goal.invariant-loop-one
invariant-loop-one l = sets_of_one (map seat_task l.seats) l.root l.sets.items (drop l.one-index l.ones) ≡ sets_of_one (map seat_task l.seats) l.root l.fn.sets.items l.ones
