use Rattle.std.proofs.Common.{◌≡◌, ◌≤◌, length, take}
use Rattle.hurd_words.specs.Lines.{without_end}
use Rattle.hurd_words.proofs.lines.without_end.Given as goal

abbrev pub invariant-loop-end : goal.invariant-loop-end
invariant-loop-end l = record { within : l.end ≤ length l.line; same_rest : without_end (take l.end l.line) ≡ without_end l.line }

abbrev pub decreases-loop-end : goal.decreases-loop-end
decreases-loop-end l = l.end
