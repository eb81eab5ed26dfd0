use Rattle.hurd_sight.specs.Found.{of_target}
use Rattle.hurd_sight.proofs.FoundLaws.{gathered_each}
use Rattle.hurd_sight.proofs.WalkLaws.{walk_all, walk_next}
use Rattle.hurd_sight.proofs.found.Found.add_each.Goals as goal

pub loop-target-preserved : goal.loop-target-preserved
loop-target-preserved c = walk_next (gathered_each (of_target c.args.node)) c.args.targets.now c.loop-target.target-index _ _ _ _ c.loop-target-test.true c.loop-target.invariant c.in_ok-add.ensures

pub returns : goal.returns
returns c = walk_all (gathered_each (of_target c.args.node)) c.args.targets.now c.loop-target.target-index _ _ c.loop-target-test.false c.loop-target.invariant
