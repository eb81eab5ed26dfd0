use Rattle.std.proofs.Common.{◌≡◌, length}
use Rattle.hurd_dialogue.proofs.EndLaws.{end_of}
use Rattle.hurd_dialogue.proofs.playing.play_silently.Given as goal

abbrev pub invariant-loop-answer : goal.invariant-loop-answer
invariant-loop-answer g l = end_of (g.T.Telling.way l.telling) ≡ end_of (g.T.Telling.way l.fn.telling)

abbrev pub decreases-loop-answer : goal.decreases-loop-answer
decreases-loop-answer g l = length (g.T.Telling.way l.telling).left
