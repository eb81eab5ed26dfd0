use Rattle.std.proofs.Common.{◌≡◌, ◌++◌, drop}
use Rattle.hurd_pictures.specs.Tasks.{ports_text}
use Rattle.hurd_pictures.proofs.tasks.push_ports.Given as goal

abbrev pub invariant-loop-port : goal.invariant-loop-port
invariant-loop-port l =
    l.text.items ++ ports_text l.titles l.view l.task l.own (drop l.port-index l.ports) ≡ l.fn.text.items ++ ports_text l.titles l.view l.task l.own l.ports
