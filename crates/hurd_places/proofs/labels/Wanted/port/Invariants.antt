use Rattle.std.proofs.Common.{◌≡◌, drop}
use Rattle.hurd_places.specs.Places.{port_wanted}
use Rattle.hurd_places.proofs.labels.Wanted.port.Given as goal

abbrev pub invariant-loop-port : goal.invariant-loop-port
invariant-loop-port l = port_wanted l.self (drop l.port-index l.ports) ≡ port_wanted l.self l.fn.ports
