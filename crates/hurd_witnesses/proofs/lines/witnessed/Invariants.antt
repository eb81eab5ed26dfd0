use Rattle.std.proofs.Common.{◌≡◌, ◌≤◌, ◌++◌, drop}
use Rattle.hurd_words.specs.Lines.{lines_of}
use Rattle.hurd_words.specs.Reading.{said}
use Rattle.hurd_witnesses.specs.Witnesses.{witnessed}
use Rattle.hurd_witnesses.proofs.lines.witnessed.Given as goal

-- what was said so far, and what is still to be said of the lines that are left
abbrev pub invariant-loop-line : goal.invariant-loop-line
invariant-loop-line g l =
    (l.text.items ++ witnessed g.T.Telling.sort l.hunt l.made (drop l.line-index (said l.line-items)) ≡ witnessed g.T.Telling.sort l.hunt 0 (lines_of l.fn.learned))
    × (l.made ≤ l.line-index)
