use Rattle.std.proofs.Common.{◌≡◌, ◌++◌, drop}
use Rattle.hurd_lessons.specs.Seen.{port_numbers}
use Rattle.hurd_lessons.proofs.seen_tasks.push_ports.Given as goal

abbrev pub invariant-loop-port : goal.invariant-loop-port
invariant-loop-port l = l.words.items ++ port_numbers (drop l.port-index l.ports) ≡ l.fn.words.items ++ port_numbers l.ports
