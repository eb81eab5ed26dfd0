use Rattle.std.proofs.Common.{◌≡◌, ◌++◌, drop, map}
use Rattle.hurd_ports.specs.Seats.{seat_task}
use Rattle.hurd_teaching.specs.Owners.{owners_of}
use Rattle.hurd_teaching.proofs.owners.owners_of.Given as goal

abbrev pub invariant-loop-i : goal.invariant-loop-i
invariant-loop-i l = l.owners.items ++ owners_of (drop l.i l.names) (map seat_task (drop l.i l.seats)) ≡ owners_of l.names (map seat_task l.seats)
