use Rattle.std.proofs.Common.{◌≡◌, ◌++◌, drop}
use Rattle.hurd_words.specs.Lines.{lines_of}
use Rattle.hurd_words.specs.Reading.{said}
use Rattle.hurd_teaching.specs.Looks.{asks_of}
use Rattle.hurd_teaching.proofs.LookLaws.{asks_from}
use Rattle.hurd_teaching.proofs.looks.asks.Given as goal

-- what was said so far, and what is still to be said of the lines that are left
abbrev pub invariant-loop-line : goal.invariant-loop-line
invariant-loop-line l = l.asks.items ++ asks_from l.asked (drop l.line-index (said l.line-items)) ≡ asks_of (lines_of l.fn.text)
