use Rattle.hurd_lessons.specs.Lessons.{GoneLineOf}
use Rattle.hurd_lessons.proofs.LineLaws.{Adding}
use Rattle.hurd_lessons.proofs.lines.add_gone.Given as goal

abbrev pub invariant-loop-i : goal.invariant-loop-i
invariant-loop-i l = Adding (GoneLineOf l.fn.who l.fn.before l.fn.after) l.fn.before.rows l.i l.fn.text.items l.text.items
