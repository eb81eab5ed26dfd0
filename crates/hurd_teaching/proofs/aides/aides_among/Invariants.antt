use Rattle.std.proofs.Common.{◌≡◌, map, take}
use Rattle.std.specs.List.{filter}
use Rattle.hurd_ports.specs.Seats.{seat_task}
use Rattle.hurd_teaching.specs.Aides.{is_aide}
use Rattle.hurd_teaching.proofs.aides.aides_among.Given as goal

-- those of the tasks so far
abbrev pub invariant-loop-task : goal.invariant-loop-task
invariant-loop-task l = l.aides.items ≡ filter (is_aide l.learners.tasks.items (map seat_task l.seats)) (take l.task-index l.tasks)
