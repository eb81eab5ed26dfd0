use Rattle.std.proofs.Common.{◌≡◌, ◌++◌, drop}
use Rattle.hurd_words.specs.Marks.{spread_bytes}
use Rattle.hurd_words.proofs.marks.push_spread_bytes.Given as goal

abbrev pub invariant-loop-byte : goal.invariant-loop-byte
invariant-loop-byte l = l.text.items ++ spread_bytes (drop l.byte-index l.bytes) ≡ l.fn.text.items ++ spread_bytes l.bytes
