use Rattle.std.specs.Prelude.{slice_get}
use Rattle.hurd_machine.proofs.Common.{TaskId, shown}
use Rattle.hurd_sight.specs.Found.{of_task}
use Rattle.hurd_sight.proofs.FoundLaws.{gathered_each}
use Rattle.hurd_sight.proofs.WalkLaws.{walk_all, walk_next}
use Rattle.hurd_sight.proofs.found.Found.add_tasks.Goals as goal

pub loop-task-preserved : goal.loop-task-preserved
loop-task-preserved g c = walk_next (gathered_each (λ (t : TaskId). of_task (shown g.S.Server.meaning c.args.nodes.now) (slice_get c.args.ports.now.state.tasks t.0))) c.args.tasks.now c.loop-task.task-index _ _ _ _ c.loop-task-test.true c.loop-task.invariant c.in_ok-add_task.ensures

pub returns : goal.returns
returns g c = walk_all (gathered_each (λ (t : TaskId). of_task (shown g.S.Server.meaning c.args.nodes.now) (slice_get c.args.ports.now.state.tasks t.0))) c.args.tasks.now c.loop-task.task-index _ _ c.loop-task-test.false c.loop-task.invariant
