use Rattle.std.proofs.Common.{◌≡◌, drop}
use Rattle.hurd_can.specs.Could.{before_text}
use Rattle.hurd_can.proofs.text.add_befores.Given as goal

-- with those that are left, these are all
abbrev pub invariant-loop-task : goal.invariant-loop-task
invariant-loop-task l = before_text l.names l.helped l.text.items (drop l.task-index l.tasks) ≡ before_text l.names l.helped l.fn.text.items l.tasks
