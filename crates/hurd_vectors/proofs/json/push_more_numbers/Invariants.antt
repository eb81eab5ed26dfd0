use Rattle.std.proofs.Common.{◌≡◌, ◌++◌, drop}
use Rattle.hurd_words.specs.Reading.{said}
use Rattle.hurd_vectors.specs.Json.{more_numbers}
use Rattle.hurd_vectors.proofs.json.push_more_numbers.Given as goal

abbrev pub invariant-loop-word : goal.invariant-loop-word
invariant-loop-word l = l.text.items ++ more_numbers (drop l.word-index (said l.words)) ≡ l.fn.text.items ++ more_numbers (said l.words)
