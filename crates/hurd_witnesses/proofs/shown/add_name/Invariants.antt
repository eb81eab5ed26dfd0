use Rattle.std.proofs.Common.{◌≡◌, ◌++◌, drop, map}
use Rattle.hurd_witnesses.specs.Answers.{mark_in}
use Rattle.hurd_witnesses.proofs.shown.add_name.Given as goal

abbrev pub invariant-loop-byte : goal.invariant-loop-byte
invariant-loop-byte l = l.marks.items ++ map mark_in (drop l.byte-index l.name) ≡ l.fn.marks.items ++ map mark_in l.name
