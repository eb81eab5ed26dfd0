use Rattle.std.proofs.Common.{◌≡◌, ◌≤◌, ◌+◌, ◌++◌, map, vec_len, vec_capacity}
use Rattle.std.specs.Vec.Iter.{into_iter_items, into_iter_len}
use Rattle.hurd_ports.specs.Steps.{new_task}
use Rattle.hurd_ports.specs.Seats.{tasks_of}
use Rattle.hurd_ports.proofs.ports.Ports.starting_at.Given as goal

-- there is a seat for each task so far, and room for one for each that is left
abbrev pub invariant-loop-ids : goal.invariant-loop-ids
invariant-loop-ids l = record {
  can : goal.iterator-loop-ids.can_next l.ids-iterator;
  ends : goal.iterator-loop-ids.is_finite l.ids-iterator;
  all : l.yielded ++ into_iter_items l.ids-iterator ≡ l.fn.tasks.items;
  seats : tasks_of l.seats.items ≡ map (new_task l.next) l.yielded;
  room : vec_len l.seats + into_iter_len l.ids-iterator ≤ vec_capacity l.seats;
}
