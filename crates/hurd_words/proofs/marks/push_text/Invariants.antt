use Rattle.std.proofs.Common.{◌≡◌, ◌++◌, drop, true}
use Rattle.hurd_words.specs.Marks.{marked_from}
use Rattle.hurd_words.proofs.marks.push_text.Given as goal

abbrev pub invariant-loop-byte : goal.invariant-loop-byte
invariant-loop-byte l = l.text.items ++ marked_from l.due (drop l.byte-index l.bytes) ≡ l.fn.text.items ++ marked_from true l.bytes
