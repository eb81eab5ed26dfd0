use Rattle.std.proofs.Common.{◌≡◌, ◌++◌, drop}
use Rattle.hurd_trans_iface.specs.Kinds.Union.{marked}
use Rattle.hurd_union.proofs.coded.push_word.Given as goal

-- the bytes that are left are missing
abbrev pub invariant-loop-byte : goal.invariant-loop-byte
invariant-loop-byte l = l.text.items ++ marked (drop l.byte-index l.word) ≡ l.fn.text.items ++ marked l.word
