use Rattle.std.proofs.Common.{◌≡◌, ◌≤◌, length, map, take, vec_len, vec_capacity}
use Rattle.std.specs.Prelude.{slice_get}
use Rattle.hurd_creds.specs.declared.name.TaskId.{TaskId}
use Rattle.hurd_views.proofs.view.seats_of.Given as goal

-- the tasks so far are copied, and there is room for the others
abbrev pub invariant-loop-task : goal.invariant-loop-task
invariant-loop-task l = record {
  copied : l.seats.items ≡ map (λ (t : TaskId). slice_get l.ports.state.tasks t.0) (take l.task-index l.tasks);
  count : vec_len l.seats ≡ l.task-index;
  room : length l.tasks ≤ vec_capacity l.seats;
}
