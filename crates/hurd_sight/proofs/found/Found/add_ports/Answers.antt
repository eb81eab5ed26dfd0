use Rattle.hurd_ports.specs.declared.table.Port.{Port}
use Rattle.hurd_nodes.specs.Shown.{shown}
use Rattle.hurd_sight.specs.Found.{of_right}
use Rattle.hurd_sight.proofs.FoundLaws.{gathered_each}
use Rattle.hurd_sight.proofs.WalkLaws.{walk_all, walk_item}
use Rattle.hurd_sight.proofs.found.Found.add_ports.Goals as goal

pub loop-port-preserved : goal.loop-port-preserved
loop-port-preserved g c = walk_item (gathered_each (λ (p : Port). of_right (shown g.S.Server.meaning c.args.nodes.now) p.right)) c.args.ports.now c.loop-port.port-index c.port-item.result _ _ _ c.loop-port-test.true c.port-item.is c.loop-port.invariant c.in_ok-add_right.ensures

pub returns : goal.returns
returns g c = walk_all (gathered_each (λ (p : Port). of_right (shown g.S.Server.meaning c.args.nodes.now) p.right)) c.args.ports.now c.loop-port.port-index _ _ c.loop-port-test.false c.loop-port.invariant
