use Rattle.std.proofs.Common.{◌≡◌, take}
use Rattle.hurd_nodes.specs.Shown.{shown}
use Rattle.hurd_sight.specs.Parts.{known_at, named, of_found}
use Rattle.hurd_sight.proofs.near.known_servers.Given as goal

-- those of the nodes so far
abbrev pub invariant-loop-i : goal.invariant-loop-i
invariant-loop-i g l = l.names ≡ named (of_found (known_at (shown g.S.Server.meaning l.nodes)) (take l.i l.found)) l.initial.names
