use Rattle.std.proofs.Common.{◌≡◌, take}
use Rattle.hurd_can.specs.Programs.{others_of}
use Rattle.hurd_can.proofs.coulds.others_of.Given as goal

-- those before this one
abbrev pub invariant-loop-task : goal.invariant-loop-task
invariant-loop-task l = l.others.items ≡ others_of l.who (take l.task-index l.tasks)
