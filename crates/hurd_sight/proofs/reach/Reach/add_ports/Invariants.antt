use Rattle.std.proofs.Common.{take}
use Rattle.std.specs.List.{list_any}
use Rattle.hurd_sight.specs.Reach.{Gains, right_holds}
use Rattle.hurd_sight.proofs.reach.Reach.add_ports.Given as goal

-- the ids of the ports so far
abbrev pub invariant-loop-port : goal.invariant-loop-port
invariant-loop-port l = Gains l.initial.self l.self (λ holds. list_any (λ p. right_holds holds p.right) (take l.port-index l.ports))
