use Rattle.std.proofs.Common.{◌≡◌, ◌++◌, drop}
use Rattle.hurd_lessons.specs.Seen.{seat_lines}
use Rattle.hurd_lessons.proofs.seen_tasks.add_seats.Given as goal

abbrev pub invariant-loop-i : goal.invariant-loop-i
invariant-loop-i l = l.text.items ++ seat_lines l.who l.view (drop l.i l.tasks) (drop l.i l.rows) ≡ l.fn.text.items ++ seat_lines l.who l.view l.tasks l.rows
