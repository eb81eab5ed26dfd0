use Rattle.std.proofs.Common.{Bool}
use Rattle.std.specs.Prelude.{slice_get}
use Rattle.hurd_machine.proofs.Common.{IdSets, TaskId}
use Rattle.hurd_sight.specs.Reach.{holds_at}
use Rattle.hurd_sight.proofs.ReachLaws.{gains_none, gathered, none_listed, gains_each}
use Rattle.hurd_sight.proofs.reach.Reach.of.Goals as goal
use Rattle.hurd_sight.proofs.WalkLaws.{walk_all, walk_next}

pub loop-task-init : goal.loop-task-init
loop-task-init c = gains_none _

pub loop-task-preserved : goal.loop-task-preserved
loop-task-preserved c =
    walk_next (gains_each (λ (holds : IdSets → Bool) (t : TaskId). holds_at holds (slice_get c.args.ports.now.state.tasks t.0))) c.args.tasks.now c.loop-task.task-index _ _ _ _
    c.loop-task-test.true c.loop-task.invariant c.in_ok-add_of.ensures

pub returns : goal.returns
returns c =
    gathered c.args.ports.now.state.tasks c.args.tasks.now _ c.loop-task.reach
    (none_listed c.new.result.keys c.new.ensures.empty)
    (none_listed c.new-2.result.keys c.new-2.ensures.empty)
    (walk_all (gains_each (λ (holds : IdSets → Bool) (t : TaskId). holds_at holds (slice_get c.args.ports.now.state.tasks t.0))) c.args.tasks.now c.loop-task.task-index _ _ c.loop-task-test.false c.loop-task.invariant)
