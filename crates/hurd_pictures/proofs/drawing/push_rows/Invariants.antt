use Rattle.std.specs.Prelude.{option_copied}
use Rattle.hurd_pictures.proofs.DrawingLaws.{DrawnBefore}
use Rattle.hurd_pictures.proofs.drawing.push_rows.Given as goal

abbrev pub invariant-loop-i : goal.invariant-loop-i
invariant-loop-i l = DrawnBefore l.titles l.view (option_copied l.fn.theirs) (option_copied l.fn.wide) l.view.rows l.i l.fn.text.items l.text.items
