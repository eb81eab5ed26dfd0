use Rattle.std.proofs.Common.{◌≡◌, ◌++◌, drop}
use Rattle.hurd_numbers.specs.Words.{zero_ended}
use Rattle.hurd_numbers.proofs.figures.push_zero_ended.Given as goal

-- with those that are left, these are all
abbrev pub invariant-loop-word : goal.invariant-loop-word
invariant-loop-word l = l.text.items ++ zero_ended (drop l.word-index l.words) ≡ l.fn.text.items ++ zero_ended l.words
