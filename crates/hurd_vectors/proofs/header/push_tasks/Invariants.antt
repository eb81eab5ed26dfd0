use Rattle.std.proofs.Common.{◌≡◌, ◌++◌, drop, true}
use Rattle.hurd_words.specs.Reading.{said}
use Rattle.hurd_vectors.specs.Lines.{tasks_text}
use Rattle.hurd_vectors.proofs.header.push_tasks.Given as goal

abbrev pub invariant-loop-line : goal.invariant-loop-line
invariant-loop-line l = l.text.items ++ tasks_text l.first (drop l.line-index (said l.lines)) ≡ l.fn.text.items ++ tasks_text true (said l.lines)
