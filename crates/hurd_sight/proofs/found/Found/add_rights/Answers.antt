use Rattle.hurd_nodes.specs.Shown.{shown}
use Rattle.hurd_sight.specs.Found.{of_right}
use Rattle.hurd_sight.proofs.FoundLaws.{gathered_each}
use Rattle.hurd_sight.proofs.WalkLaws.{walk_all, walk_item}
use Rattle.hurd_sight.proofs.found.Found.add_rights.Goals as goal

pub loop-right-preserved : goal.loop-right-preserved
loop-right-preserved g c = walk_item (gathered_each (of_right (shown g.S.Server.meaning c.args.nodes.now))) c.args.rights.now c.loop-right.right-index c.right-item.result _ _ _ c.loop-right-test.true c.right-item.is c.loop-right.invariant c.in_ok-add_right.ensures

pub returns : goal.returns
returns g c = walk_all (gathered_each (of_right (shown g.S.Server.meaning c.args.nodes.now))) c.args.rights.now c.loop-right.right-index _ _ c.loop-right-test.false c.loop-right.invariant
