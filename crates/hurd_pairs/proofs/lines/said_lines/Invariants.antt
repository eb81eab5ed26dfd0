use Rattle.std.proofs.Common.{◌≡◌, ◌++◌, ◌+◌, drop}
use Rattle.hurd_words.specs.Lines.{lines_of}
use Rattle.hurd_words.specs.Reading.{said}
use Rattle.hurd_pairs.specs.Lines.{numbers_from}
use Rattle.hurd_pairs.proofs.lines.said_lines.Given as goal

-- the numbers so far, and those of the lines that are left
abbrev pub invariant-loop-index : goal.invariant-loop-index
invariant-loop-index l = l.numbers.items ++ numbers_from (l.index + 1) (drop l.index (said l.line-items)) ≡ numbers_from 1 (lines_of l.fn.text)
