use Rattle.std.proofs.Common.{◌-◌, ◌^◌}
use Rattle.hurd_nodes.specs.Shown.{shown}
use Rattle.hurd_sight.specs.Found.{of_node}
use Rattle.hurd_sight.proofs.FollowLaws.{Following}
use Rattle.hurd_sight.proofs.found.Found.follow.Given as goal

-- so far the nodes before the index were followed
abbrev pub invariant-loop-node : goal.invariant-loop-node
invariant-loop-node g l = Following (of_node (shown g.S.Server.meaning l.nodes) l.reach) l.index l.initial.self l.self

-- there are less than that many
abbrev pub decreases-loop-node : goal.decreases-loop-node
decreases-loop-node g l = 2 ^ 63 - l.index
