use Rattle.std.proofs.Common.{◌≡◌, ◌++◌, drop}
use Rattle.hurd_words.specs.Marks.{marked_names}
use Rattle.hurd_words.proofs.marks.push_names.Given as goal

abbrev pub invariant-loop-name : goal.invariant-loop-name
invariant-loop-name l = l.text.items ++ marked_names (drop l.name-index l.names) ≡ l.fn.text.items ++ marked_names l.names
