use Rattle.std.proofs.Common.{◌≡◌, drop}
use Rattle.hurd_can.specs.Ways.{called}
use Rattle.hurd_can.proofs.ways.add_names.Given as goal

-- with those that are left, these are all
abbrev pub invariant-loop-task : goal.invariant-loop-task
invariant-loop-task l = called l.names l.members.items (drop l.task-index l.tasks) ≡ called l.names l.fn.members.items l.tasks
