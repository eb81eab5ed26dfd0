-- The row that is there, or the one that is none.
use Rattle.std.proofs.Common.{◌∙◌}
use Rattle.hurd_lessons.proofs.lines.row_at.Goals as goal

pub returns-in-Some : goal.returns-in-Some
returns-in-Some c = c.in-Some.ensures

pub returns-in-None : goal.returns-in-None
returns-in-None c = c.requires ∙ c.in-None.ensures
