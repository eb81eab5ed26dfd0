use Rattle.std.proofs.Common.{◌≡◌, ◌++◌, drop}
use Rattle.hurd_sample.specs.Written.{written}
use Rattle.hurd_sample.proofs.command.push_word.Given as goal

abbrev pub invariant-loop-byte : goal.invariant-loop-byte
invariant-loop-byte l = l.text.items ++ written (drop l.byte-index l.word) ≡ l.fn.text.items ++ written l.word
