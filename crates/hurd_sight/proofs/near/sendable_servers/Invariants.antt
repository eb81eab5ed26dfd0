use Rattle.std.proofs.Common.{◌≡◌, take}
use Rattle.hurd_nodes.specs.Shown.{shown}
use Rattle.hurd_sight.specs.Parts.{sendable_at, named, of_found}
use Rattle.hurd_sight.proofs.near.sendable_servers.Given as goal

-- those of the nodes so far
abbrev pub invariant-loop-i : goal.invariant-loop-i
invariant-loop-i g l = l.names ≡ named (of_found (sendable_at (shown g.S.Server.meaning l.nodes) l.reach) (take l.i l.found)) l.initial.names
