use Rattle.std.proofs.Common.{◌≡◌, ◌++◌, drop, map}
use Rattle.hurd_witnesses.specs.declared.shown.Mark.TheVariants.{Byte}
use Rattle.hurd_witnesses.proofs.shown.add_text.Given as goal

abbrev pub invariant-loop-byte : goal.invariant-loop-byte
invariant-loop-byte l = l.marks.items ++ map Byte (drop l.byte-index l.bytes) ≡ l.fn.marks.items ++ map Byte l.bytes
