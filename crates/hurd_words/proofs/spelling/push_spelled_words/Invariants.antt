use Rattle.std.proofs.Common.{◌≡◌, ◌++◌, drop}
use Rattle.hurd_words.specs.Spelling.{spelled_words}
use Rattle.hurd_words.proofs.spelling.push_spelled_words.Given as goal

abbrev pub invariant-loop-word : goal.invariant-loop-word
invariant-loop-word l = l.text.items ++ spelled_words (drop l.word-index l.words) ≡ l.fn.text.items ++ spelled_words l.words
