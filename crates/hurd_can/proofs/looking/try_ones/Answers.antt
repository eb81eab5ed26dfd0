use Rattle.std.proofs.Common.{arith}
use Rattle.hurd_machine.specs.World.{world_from}
use Rattle.hurd_nodes.specs.Shown.{shown}
use Rattle.hurd_can.proofs.HelpLaws.{adds_nobody, one_more}
use Rattle.hurd_can.proofs.looking.try_ones.Goals as goal

pub loop-one-init : goal.loop-one-init
loop-one-init g c = adds_nobody (world_from (shown g.S.Server.meaning c.args.nodes.now) c.args.ports.now.state) c.args.who.now c.args.all.now.items

pub loop-one-preserved : goal.loop-one-preserved
loop-one-preserved g c =
    one_more (world_from (shown g.S.Server.meaning c.args.nodes.now) c.args.ports.now.state) c.args.who.now c.args.others.now c.loop-one.one-index _ c.args.all.now.items c.loop-one.all.items c.try_one.new.all.items
    (omega arith) c.loop-one.invariant c.in_ok-try_one.ensures
