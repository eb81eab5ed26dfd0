use Rattle.std.proofs.Common.{◌≡◌, drop}
use Rattle.hurd_places.specs.Places.{label_of_tasks}
use Rattle.hurd_places.proofs.labels.Wanted.label_of_tasks.Given as goal

abbrev pub invariant-loop-i : goal.invariant-loop-i
invariant-loop-i l = label_of_tasks l.self (drop l.i l.tasks) (drop l.i l.rows) ≡ label_of_tasks l.self l.fn.tasks l.fn.rows
