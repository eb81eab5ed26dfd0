use Rattle.std.proofs.Common.{◌≡◌, ◌++◌, drop}
use Rattle.hurd_places.specs.Places.{beside_ports}
use Rattle.hurd_places.proofs.labels.push_ports.Given as goal

abbrev pub invariant-loop-port : goal.invariant-loop-port
invariant-loop-port l = l.text.items ++ beside_ports l.many l.task l.node (drop l.port-index l.ports) ≡ l.fn.text.items ++ beside_ports l.many l.task l.node l.fn.ports
