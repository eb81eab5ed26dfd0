use Rattle.hurd_sight.specs.Found.{of_way}
use Rattle.hurd_sight.proofs.FoundLaws.{gathered_each}
use Rattle.hurd_sight.proofs.WalkLaws.{walk_all, walk_next}
use Rattle.hurd_sight.proofs.found.Found.add_ways.Goals as goal

pub loop-way-preserved : goal.loop-way-preserved
loop-way-preserved c = walk_next (gathered_each of_way) c.args.ways.now c.loop-way.way-index _ _ _ _ c.loop-way-test.true c.loop-way.invariant c.in_ok-add_way.ensures

pub returns : goal.returns
returns c = walk_all (gathered_each of_way) c.args.ways.now c.loop-way.way-index _ _ c.loop-way-test.false c.loop-way.invariant
