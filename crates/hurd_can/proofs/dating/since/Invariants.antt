use Rattle.std.proofs.Common.{length}
use Rattle.hurd_can.specs.Remembered.{row_of}
use Rattle.hurd_can.proofs.DatedLaws.{Left}
use Rattle.hurd_can.proofs.dating.since.Given as goal

-- what the worlds from here on say, all of them do
abbrev pub invariant-loop-answer : goal.invariant-loop-answer
invariant-loop-answer g l = Left (row_of l.last l.part) l.tasks l.part (g.T.Telling.way l.fn.telling) (g.T.Telling.way l.telling) l.since

abbrev pub decreases-loop-answer : goal.decreases-loop-answer
decreases-loop-answer g l = length (g.T.Telling.way l.telling).left
