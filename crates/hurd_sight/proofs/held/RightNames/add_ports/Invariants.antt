use Rattle.std.proofs.Common.{◌≡◌, take, map}
use Rattle.hurd_sight.specs.Parts.{with_rights}
use Rattle.hurd_sight.proofs.held.RightNames.add_ports.Given as goal

-- the names of the rights of the ports so far
abbrev pub invariant-loop-port : goal.invariant-loop-port
invariant-loop-port l = l.self ≡ with_rights l.ports.state.opens (map (λ p. p.right) (take l.port-index l.some)) l.initial.self
