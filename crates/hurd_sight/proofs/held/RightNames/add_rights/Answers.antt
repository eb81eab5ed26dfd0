use Rattle.hurd_sight.proofs.NameLaws.{rights_each}
use Rattle.hurd_sight.proofs.WalkLaws.{walk_all, walk_item}
use Rattle.hurd_sight.proofs.held.RightNames.add_rights.Goals as goal

pub loop-right-preserved : goal.loop-right-preserved
loop-right-preserved c = walk_item (rights_each c.args.ports.now.state.opens) c.args.rights.now c.loop-right.right-index c.right-item.result _ _ _ c.loop-right-test.true c.right-item.is c.loop-right.invariant c.in_ok-add_right.ensures

pub returns : goal.returns
returns c = walk_all (rights_each c.args.ports.now.state.opens) c.args.rights.now c.loop-right.right-index _ _ c.loop-right-test.false c.loop-right.invariant
