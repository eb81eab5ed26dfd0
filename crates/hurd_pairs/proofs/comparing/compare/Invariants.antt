use Rattle.std.proofs.Common.{length}
use Rattle.hurd_sight.specs.Reach.{among}
use Rattle.hurd_pairs.specs.Moments.{moments_left}
use Rattle.hurd_pairs.proofs.StepLaws.{Comparing}
use Rattle.hurd_pairs.proofs.comparing.compare.Given as goal

-- of all moments those in front of the ones that are left were compared
abbrev pub invariant-steps : goal.invariant-steps
invariant-steps g l =
    Comparing l.fn.learners.tasks.items l.fn.learners.sees.items (moments_left (among l.fn.learners.tasks.items) (g.T.Telling.way l.fn.one)) (moments_left (among l.fn.learners.tasks.items) (g.T.Telling.way l.fn.two))
    (moments_left (among l.fn.learners.tasks.items) (g.T.Telling.way l.one)) (moments_left (among l.fn.learners.tasks.items) (g.T.Telling.way l.two)) l.compared

abbrev pub decreases-steps : goal.decreases-steps
decreases-steps g l = length (moments_left (among l.fn.learners.tasks.items) (g.T.Telling.way l.one))
