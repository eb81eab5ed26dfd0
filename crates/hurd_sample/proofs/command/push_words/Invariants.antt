use Rattle.std.proofs.Common.{◌≡◌, ◌++◌, drop, map, string_bytes}
use Rattle.hurd_sample.specs.Written.{spaced}
use Rattle.hurd_sample.proofs.command.push_words.Given as goal

abbrev pub invariant-loop-word : goal.invariant-loop-word
invariant-loop-word l = l.text.items ++ spaced (map string_bytes (drop l.word-index l.words)) ≡ l.fn.text.items ++ spaced (map string_bytes l.words)
