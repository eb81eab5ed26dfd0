-- With the next task, the tasks up to this one are copied.
use Rattle.std.proofs.Common.{◌∙◌, List, [], ◌∷◌, ◌++◌, map, take, get_or, sym, ap, ap₂, arith}
use Rattle.std.proofs.lemmas.List.{take_more, map-append}
use Rattle.std.specs.Prelude.{Option, slice_get}
use Rattle.hurd_machine.proofs.Common.{Task, TaskId}
use Rattle.hurd_views.proofs.view.seats_of.Goals as goal

pub loop-task-preserved : goal.loop-task-preserved
loop-task-preserved c =
    let here : TaskId → Option Task = λ t. slice_get c.args.ports.now.state.tasks t.0 in
    let tasks = c.args.tasks.now in
    let i = c.loop-task.task-index in
    let none : TaskId = record { 0 = 0 } in
    record {
      copied = c.push_reserved.ensures.items ∙ ap₂ (λ (rows : List (Option Task)) (row : Option Task). rows ++ row ∷ []) c.loop-task.invariant.copied c.in_ok-of.ensures ∙ sym (map-append here (take i tasks) (get_or tasks i none ∷ [])) ∙ ap (map here) (sym (take_more tasks i none c.loop-task-test.true));
      count = omega (arith, c.loop-task.invariant.count, c.push_reserved.ensures.len);
      room = omega (arith, c.loop-task.invariant.room, c.push_reserved.ensures.capacity);
    }
