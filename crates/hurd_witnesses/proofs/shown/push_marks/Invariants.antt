use Rattle.std.proofs.Common.{◌≡◌, ◌++◌, drop}
use Rattle.hurd_witnesses.specs.Answers.{shown_marks}
use Rattle.hurd_witnesses.proofs.shown.push_marks.Given as goal

abbrev pub invariant-loop-mark : goal.invariant-loop-mark
invariant-loop-mark l = l.text.items ++ shown_marks (drop l.mark-index l.marks) ≡ l.fn.text.items ++ shown_marks l.marks
