use Rattle.std.proofs.Common.{◌≡◌, drop}
use Rattle.hurd_words.specs.Reading.{said}
use Rattle.hurd_witnesses.specs.Trials.{child_from, child_of}
use Rattle.hurd_witnesses.proofs.children.child_of.Given as goal

-- the name is found among the words that are left
abbrev pub invariant-loop-word : goal.invariant-loop-word
invariant-loop-word l = child_from l.seek (drop l.word-index (said l.word-items)) ≡ child_of l.fn.line
