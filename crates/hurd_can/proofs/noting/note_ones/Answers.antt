use Rattle.std.proofs.Common.{arith}
use Rattle.hurd_nodes.specs.Shown.{shown}
use Rattle.hurd_sight.specs.Looks.{sees_with}
use Rattle.hurd_can.specs.Noting.{noted_one}
use Rattle.hurd_can.proofs.HelpLaws.{mapped_more}
use Rattle.hurd_can.proofs.noting.note_ones.Goals as goal

pub loop-helped-preserved : goal.loop-helped-preserved
loop-helped-preserved g c =
    rw c.in_ok-note_one.ensures
    (mapped_more (noted_one (sees_with (shown g.S.Server.meaning c.args.nodes.now) c.args.sight.now) c.args.one) c.args.all.now.items c.loop-helped.helped-items c.loop-helped.helped-index c.helped-item.result c.loop-helped.invariant (omega arith))
