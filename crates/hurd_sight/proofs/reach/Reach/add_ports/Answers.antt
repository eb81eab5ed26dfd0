use Rattle.std.proofs.Common.{Bool}
use Rattle.hurd_creds.specs.Access.{IdSets}
use Rattle.hurd_ports.specs.declared.table.Port.{Port}
use Rattle.hurd_sight.specs.Reach.{right_holds}
use Rattle.hurd_sight.proofs.ReachLaws.{gains_none, gains_each}
use Rattle.hurd_sight.proofs.reach.Reach.add_ports.Goals as goal
use Rattle.hurd_sight.proofs.WalkLaws.{walk_all, walk_item}

pub loop-port-init : goal.loop-port-init
loop-port-init c = gains_none c.args.self.now

pub loop-port-preserved : goal.loop-port-preserved
loop-port-preserved c = walk_item (gains_each (λ (holds : IdSets → Bool) (p : Port). right_holds holds p.right)) c.args.ports.now c.loop-port.port-index c.port-item.result _ _ _ c.loop-port-test.true c.port-item.is c.loop-port.invariant c.in_ok-add_right.ensures

pub returns : goal.returns
returns c = walk_all (gains_each (λ (holds : IdSets → Bool) (p : Port). right_holds holds p.right)) c.args.ports.now c.loop-port.port-index _ _ c.loop-port-test.false c.loop-port.invariant
