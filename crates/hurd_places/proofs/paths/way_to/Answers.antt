use Rattle.hurd_places.proofs.PlaceLaws.{way_ends, way_goes}
use Rattle.hurd_places.proofs.paths.way_to.Goals as goal

pub returns-in_default : goal.returns-in_default
returns-in_default c = way_ends c.loop.invariant.0 c.args.found.now c.loop.way.items _ (rw c.in_default.is at c.loop.invariant.2)

pub loop-preserved : goal.loop-preserved
loop-preserved c =
    rw c.found_from-at.ensures
    (way_goes c.loop.invariant.0 _ c.loop.counter c.args.found.now c.in-Some.node c.loop.way.items c.push.new.self.items _
    (rw c.len-end.ensures at c.loop-test.true) c.loop.invariant.1 (rw c.in-Some.is at c.loop.invariant.2) c.in_ok-push.ensures.items)
