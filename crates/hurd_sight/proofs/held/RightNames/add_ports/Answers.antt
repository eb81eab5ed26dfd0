use Rattle.hurd_sight.proofs.NameLaws.{ports_each}
use Rattle.hurd_sight.proofs.WalkLaws.{walk_all, walk_item}
use Rattle.hurd_sight.proofs.held.RightNames.add_ports.Goals as goal

pub loop-port-preserved : goal.loop-port-preserved
loop-port-preserved c = walk_item (ports_each c.args.ports.now.state.opens) c.args.some.now c.loop-port.port-index c.port-item.result _ _ _ c.loop-port-test.true c.port-item.is c.loop-port.invariant c.in_ok-add_right.ensures

pub returns : goal.returns
returns c = walk_all (ports_each c.args.ports.now.state.opens) c.args.some.now c.loop-port.port-index _ _ c.loop-port-test.false c.loop-port.invariant
