use Rattle.std.proofs.Common.{◌≡◌, ◌≤◌, drop}
use Rattle.hurd_words.specs.Lines.{lines_of}
use Rattle.hurd_words.specs.Reading.{said}
use Rattle.hurd_teaching.specs.Looks.{said_before}
use Rattle.hurd_teaching.proofs.LookLaws.{said_from}
use Rattle.hurd_teaching.proofs.looks.said_before.Given as goal

-- what was counted so far, and what is still to be counted of the lines that are left
abbrev pub invariant-loop-line : goal.invariant-loop-line
invariant-loop-line l = (said_from l.said (drop l.line-index (said l.line-items)) ≡ said_before (lines_of l.fn.text)) × (l.said ≤ l.line-index)
