use Rattle.std.proofs.Common.{◌≡◌, ◌++◌, drop}
use Rattle.hurd_words.specs.Printing.{spelled}
use Rattle.hurd_words.proofs.printing.push_word.Given as goal

abbrev pub invariant-loop-byte : goal.invariant-loop-byte
invariant-loop-byte l = l.line.items ++ spelled (drop l.byte-index l.word) ≡ l.fn.line.items ++ spelled l.word
