use Rattle.hurd_lessons.specs.Lessons.{LineOf}
use Rattle.hurd_lessons.proofs.LineLaws.{Adding}
use Rattle.hurd_lessons.proofs.lines.add_seen.Given as goal

abbrev pub invariant-loop-i : goal.invariant-loop-i
invariant-loop-i l = Adding (LineOf l.fn.who l.fn.before l.fn.after) l.fn.after.rows l.i l.fn.text.items l.text.items
