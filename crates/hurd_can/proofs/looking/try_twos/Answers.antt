use Rattle.std.proofs.Common.{arith}
use Rattle.hurd_machine.specs.World.{world_from}
use Rattle.hurd_nodes.specs.Shown.{shown}
use Rattle.hurd_can.proofs.HelpLaws.{adds_no_pair, two_more}
use Rattle.hurd_can.proofs.looking.try_twos.Goals as goal

pub loop-pair-init : goal.loop-pair-init
loop-pair-init g c = adds_no_pair (world_from (shown g.S.Server.meaning c.args.nodes.now) c.args.ports.now.state) c.args.who.now c.args.all.now.items

pub loop-pair-preserved : goal.loop-pair-preserved
loop-pair-preserved g c =
    two_more (world_from (shown g.S.Server.meaning c.args.nodes.now) c.args.ports.now.state) c.args.who.now c.args.pairs.now c.loop-pair.pair-index _ c.args.all.now.items c.loop-pair.all.items c.try_two.new.all.items
    (omega arith) c.loop-pair.invariant c.in_ok-try_two.ensures
