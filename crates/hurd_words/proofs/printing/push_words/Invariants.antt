use Rattle.std.proofs.Common.{◌≡◌, ◌++◌, drop}
use Rattle.hurd_words.specs.Printing.{spaced_words}
use Rattle.hurd_words.proofs.printing.push_words.Given as goal

abbrev pub invariant-loop-word : goal.invariant-loop-word
invariant-loop-word l = l.line.items ++ spaced_words (drop l.word-index l.words) ≡ l.fn.line.items ++ spaced_words l.words
