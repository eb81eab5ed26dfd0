use Rattle.std.proofs.Common.{◌≡◌, length}
use Rattle.hurd_sight.specs.Reach.{among}
use Rattle.hurd_pairs.specs.Moments.{moments_left}
use Rattle.hurd_pairs.proofs.own.reach_own.Given as goal

-- no moment of theirs passed
abbrev pub invariant-loop-task : goal.invariant-loop-task
invariant-loop-task g l = moments_left (among l.fn.learners.tasks.items) (g.T.Telling.way l.telling) ≡ moments_left (among l.fn.learners.tasks.items) (g.T.Telling.way l.fn.telling)

abbrev pub decreases-loop-task : goal.decreases-loop-task
decreases-loop-task g l = length (g.T.Telling.way l.telling).left
