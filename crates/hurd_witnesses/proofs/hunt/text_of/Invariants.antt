use Rattle.std.proofs.Common.{◌≡◌, ◌++◌, drop, take}
use Rattle.hurd_witnesses.specs.Witnesses.{text_of}
use Rattle.hurd_witnesses.proofs.hunt.text_of.Given as goal

-- the text so far, and that of the lines that are left
abbrev pub invariant-loop-line : goal.invariant-loop-line
invariant-loop-line l = l.text.items ++ text_of (drop l.line-index l.line-items) ≡ text_of (take l.fn.count l.fn.lines)
