use Rattle.hurd_lessons.proofs.SeenLaws.{SeenBefore}
use Rattle.hurd_lessons.proofs.seen_lines.lines.Given as goal

abbrev pub invariant-loop-i : goal.invariant-loop-i
invariant-loop-i l = SeenBefore l.fn.who l.fn.view l.fn.view.rows l.i l.text.items
