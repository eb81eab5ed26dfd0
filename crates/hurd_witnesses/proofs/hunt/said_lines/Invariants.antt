use Rattle.std.proofs.Common.{◌≡◌, ◌++◌, drop}
use Rattle.hurd_words.specs.Lines.{lines_of}
use Rattle.hurd_words.specs.Reading.{said}
use Rattle.hurd_witnesses.specs.Witnesses.{said_of}
use Rattle.hurd_witnesses.proofs.hunt.said_lines.Given as goal

-- those found so far, and those among the lines that are left
abbrev pub invariant-loop-line : goal.invariant-loop-line
invariant-loop-line l = l.said.items ++ said_of (drop l.line-index (said l.line-items)) ≡ said_of (lines_of l.fn.text)
