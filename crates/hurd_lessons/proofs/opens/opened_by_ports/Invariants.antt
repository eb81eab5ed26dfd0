use Rattle.std.proofs.Common.{◌≡◌, drop}
use Rattle.hurd_lessons.specs.Seen.{opened_by_ports}
use Rattle.hurd_lessons.proofs.opens.opened_by_ports.Given as goal

abbrev pub invariant-loop-port : goal.invariant-loop-port
invariant-loop-port l = opened_by_ports l.wanted (drop l.port-index l.ports) ≡ opened_by_ports l.fn.wanted l.fn.ports
