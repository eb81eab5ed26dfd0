use Rattle.std.proofs.Common.{◌≡◌, ◌++◌, drop}
use Rattle.hurd_pictures.specs.Tasks.{seats_text}
use Rattle.hurd_pictures.proofs.tasks.push_seats.Given as goal

abbrev pub invariant-loop-i : goal.invariant-loop-i
invariant-loop-i l = l.text.items ++ seats_text l.titles l.view (drop l.i l.tasks) (drop l.i l.rows) ≡ l.fn.text.items ++ seats_text l.titles l.view l.tasks l.rows
