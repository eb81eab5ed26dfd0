use Rattle.std.proofs.Common.{length}
use Rattle.hurd_can.proofs.EndLaws.{Left}
use Rattle.hurd_can.proofs.coulds.remember_all.Given as goal

-- what the worlds from here on add, all of them do
abbrev pub invariant-loop-answer : goal.invariant-loop-answer
invariant-loop-answer g l = Left (g.T.Telling.way l.fn.telling) (g.T.Telling.way l.telling) l.last l.tasks l.fn.all.items l.all.items

abbrev pub decreases-loop-answer : goal.decreases-loop-answer
decreases-loop-answer g l = length (g.T.Telling.way l.telling).left
