use Rattle.std.proofs.Common.{take}
use Rattle.hurd_sight.specs.Reach.{Gains, some_holds}
use Rattle.hurd_sight.proofs.reach.Reach.of.Given as goal

-- the ids of the tasks so far
abbrev pub invariant-loop-task : goal.invariant-loop-task
invariant-loop-task l = Gains l.initial.reach l.reach (λ holds. some_holds holds l.ports.state.tasks (take l.task-index l.tasks))
