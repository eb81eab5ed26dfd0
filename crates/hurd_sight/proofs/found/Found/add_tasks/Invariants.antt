use Rattle.std.proofs.Common.{◌≡◌, take}
use Rattle.hurd_machine.proofs.Common.{TaskId, flat_map, shown}
use Rattle.std.specs.Prelude.{slice_get}
use Rattle.hurd_sight.specs.Found.{gathered, of_task}
use Rattle.hurd_sight.proofs.found.Found.add_tasks.Given as goal

-- what those so far show
abbrev pub invariant-loop-task : goal.invariant-loop-task
invariant-loop-task g l = l.self ≡ gathered (flat_map (λ (t : TaskId). of_task (shown g.S.Server.meaning l.nodes) (slice_get l.ports.state.tasks t.0)) (take l.task-index l.tasks)) l.initial.self
