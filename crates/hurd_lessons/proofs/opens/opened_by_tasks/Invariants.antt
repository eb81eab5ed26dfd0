use Rattle.std.proofs.Common.{◌≡◌, drop}
use Rattle.hurd_lessons.specs.Seen.{opened_by_tasks}
use Rattle.hurd_lessons.proofs.opens.opened_by_tasks.Given as goal

abbrev pub invariant-loop-row : goal.invariant-loop-row
invariant-loop-row l = opened_by_tasks l.wanted (drop l.row-index l.rows) ≡ opened_by_tasks l.fn.wanted l.fn.rows
