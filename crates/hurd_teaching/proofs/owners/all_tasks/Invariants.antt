use Rattle.std.proofs.Common.{◌≡◌}
use Rattle.hurd_teaching.specs.Owners.{tasks_below}
use Rattle.hurd_teaching.proofs.owners.all_tasks.Given as goal

abbrev pub invariant-loop-number : goal.invariant-loop-number
invariant-loop-number l = l.tasks.items ≡ tasks_below l.number
