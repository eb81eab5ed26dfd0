use Rattle.std.proofs.Common.{◌≡◌, take}
use Rattle.hurd_machine.proofs.Common.{flat_map, shown}
use Rattle.hurd_ports.specs.declared.table.Port.{Port}
use Rattle.hurd_sight.specs.Found.{gathered, of_right}
use Rattle.hurd_sight.proofs.found.Found.add_ports.Given as goal

-- what those so far show
abbrev pub invariant-loop-port : goal.invariant-loop-port
invariant-loop-port g l = l.self ≡ gathered (flat_map (λ (p : Port). of_right (shown g.S.Server.meaning l.nodes) p.right) (take l.port-index l.ports)) l.initial.self
