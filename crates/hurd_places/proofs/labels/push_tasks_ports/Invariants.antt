use Rattle.std.proofs.Common.{◌≡◌, ◌++◌, drop}
use Rattle.hurd_places.specs.Places.{beside_tasks}
use Rattle.hurd_places.proofs.labels.push_tasks_ports.Given as goal

abbrev pub invariant-loop-i : goal.invariant-loop-i
invariant-loop-i l = l.text.items ++ beside_tasks l.many l.node (drop l.i l.tasks) (drop l.i l.rows) ≡ l.fn.text.items ++ beside_tasks l.many l.node l.fn.tasks l.fn.rows
