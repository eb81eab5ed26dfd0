use Rattle.std.proofs.Common.{◌≡◌, ◌++◌, drop}
use Rattle.hurd_trans_iface.specs.Kinds.Union.{text_of}
use Rattle.hurd_union.proofs.coded.coded.Given as goal

-- the text of the words that are left is missing
abbrev pub invariant-loop-word : goal.invariant-loop-word
invariant-loop-word l = l.text.items ++ text_of (drop l.word-index l.words) ≡ text_of l.words
