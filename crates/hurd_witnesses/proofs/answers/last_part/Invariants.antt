use Rattle.std.proofs.Common.{◌≡◌, None, length}
use Rattle.std.specs.List.{last_or}
use Rattle.hurd_dialogue.specs.Parts.{answers}
use Rattle.hurd_witnesses.proofs.answers.last_part.Given as goal

-- the last part is the last that was told, or one of those that are left
abbrev pub invariant-loop-last : goal.invariant-loop-last
invariant-loop-last g l = last_or l.last (answers (g.T.Telling.way l.telling).left) ≡ last_or None (answers (g.T.Telling.way l.fn.telling).left)

abbrev pub decreases-loop-last : goal.decreases-loop-last
decreases-loop-last g l = length (g.T.Telling.way l.telling).left
