use Rattle.std.proofs.Common.{Bool}
use Rattle.hurd_machine.proofs.Common.{IdSets, Right}
use Rattle.hurd_sight.specs.Reach.{right_holds}
use Rattle.hurd_sight.proofs.ReachLaws.{gains_none, gains_each}
use Rattle.hurd_sight.proofs.reach.Reach.add_rights.Goals as goal
use Rattle.hurd_sight.proofs.WalkLaws.{walk_all, walk_item}

pub loop-right-init : goal.loop-right-init
loop-right-init c = gains_none c.args.self.now

pub loop-right-preserved : goal.loop-right-preserved
loop-right-preserved c = walk_item (gains_each (λ (holds : IdSets → Bool) (r : Right). right_holds holds r)) c.args.rights.now c.loop-right.right-index c.right-item.result _ _ _ c.loop-right-test.true c.right-item.is c.loop-right.invariant c.in_ok-add_right.ensures

pub returns : goal.returns
returns c = walk_all (gains_each (λ (holds : IdSets → Bool) (r : Right). right_holds holds r)) c.args.rights.now c.loop-right.right-index _ _ c.loop-right-test.false c.loop-right.invariant
