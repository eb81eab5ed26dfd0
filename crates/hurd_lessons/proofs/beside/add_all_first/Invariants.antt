use Rattle.hurd_lessons.specs.Beside.{FirstLine}
use Rattle.hurd_lessons.proofs.LineLaws.{Adding}
use Rattle.hurd_lessons.proofs.beside.add_all_first.Given as goal

abbrev pub invariant-loop-i : goal.invariant-loop-i
invariant-loop-i l = Adding (FirstLine l.fn.who l.fn.first.view.now l.fn.second.view.now) l.fn.first.view.now.rows l.i l.fn.text.items l.text.items
