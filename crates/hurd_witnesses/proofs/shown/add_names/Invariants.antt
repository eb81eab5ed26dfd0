use Rattle.std.proofs.Common.{◌≡◌, ◌++◌, drop}
use Rattle.hurd_witnesses.specs.Answers.{marks_of_names}
use Rattle.hurd_witnesses.proofs.shown.add_names.Given as goal

abbrev pub invariant-loop-name : goal.invariant-loop-name
invariant-loop-name l = l.marks.items ++ marks_of_names (drop l.name-index l.names) ≡ l.fn.marks.items ++ marks_of_names l.names
