use Rattle.std.proofs.Common.{sym, ◌∙◌}
use Rattle.hurd_nodes.specs.Shown.{shown}
use Rattle.hurd_sight.specs.Found.{of_node}
use Rattle.hurd_sight.proofs.FollowLaws.{follow_end, follow_none}
use Rattle.hurd_sight.proofs.RoundLaws.{shown_next}
use Rattle.hurd_sight.proofs.found.Found.follow.Goals as goal

pub loop-node-init : goal.loop-node-init
loop-node-init g c = follow_none (of_node (shown g.S.Server.meaning c.args.nodes.now) c.args.reach.now) c.args.self.now

pub loop-node-preserved : goal.loop-node-preserved
loop-node-preserved g c =
    shown_next (shown g.S.Server.meaning c.args.nodes.now) c.args.reach.now c.args.self.now c.loop-node.self c.add_shown.new.self c.args.plain c.loop-node.index c.in-Some.node c.requires.so_many c.requires.there c.loop-node.invariant c.in-Some.ensures.node c.in_ok-add_shown.ensures

pub returns : goal.returns
returns g c = follow_end (of_node (shown g.S.Server.meaning c.args.nodes.now) c.args.reach.now) c.args.self.now c.loop-node.self c.loop-node.index c.loop-node.invariant (sym c.in_default.is ∙ c.node_at.ensures.node)
