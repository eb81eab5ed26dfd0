use Rattle.std.proofs.Common.{◌∙◌, ap}
use Rattle.std.specs.Prelude.{slice_get}
use Rattle.hurd_creds.specs.declared.name.TaskId.{TaskId}
use Rattle.hurd_sight.specs.Parts.{rights_at, rights_held, with_rights}
use Rattle.hurd_sight.proofs.NameLaws.{all_empty, with-append}
use Rattle.hurd_sight.proofs.WalkLaws.{each, walk_all, walk_next}
use Rattle.hurd_sight.proofs.held.RightNames.of.Goals as goal

pub loop-task-preserved : goal.loop-task-preserved
loop-task-preserved c =
    walk_next (each (with_rights c.args.ports.now.state.opens) (with-append c.args.ports.now.state.opens) (λ (t : TaskId). rights_at (slice_get c.args.ports.now.state.tasks t.0)))
    c.args.tasks.now c.loop-task.task-index _ _ _ _ c.loop-task-test.true c.loop-task.invariant c.in_ok-add_task.ensures

pub returns : goal.returns
returns c =
    walk_all (each (with_rights c.args.ports.now.state.opens) (with-append c.args.ports.now.state.opens) (λ (t : TaskId). rights_at (slice_get c.args.ports.now.state.tasks t.0)))
    c.args.tasks.now c.loop-task.task-index _ _ c.loop-task-test.false c.loop-task.invariant
    ∙ ap (with_rights c.args.ports.now.state.opens (rights_held c.args.ports.now.state.tasks c.args.tasks.now)) (all_empty c.new.ensures c.new-2.ensures c.new-3.ensures c.new-4.ensures)
