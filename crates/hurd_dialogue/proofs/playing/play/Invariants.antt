use Rattle.std.proofs.Common.{length}
use Rattle.hurd_dialogue.specs.Parts.{joined}
use Rattle.hurd_dialogue.proofs.Printed.{PrintedSoFar}
use Rattle.hurd_dialogue.proofs.playing.play.Given as goal

-- of all that was left to tell, what was told so far was printed
abbrev pub invariant-loop-answer : goal.invariant-loop-answer
invariant-loop-answer g l =
    PrintedSoFar (joined (g.T.Telling.way l.fn.telling).left) (g.W.Write.contents l.fn.output.writer) (g.W.Write.contents l.output.writer) (g.T.Telling.way l.telling).left

abbrev pub decreases-loop-answer : goal.decreases-loop-answer
decreases-loop-answer g l = length (g.T.Telling.way l.telling).left
