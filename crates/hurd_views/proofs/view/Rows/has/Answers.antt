use Rattle.std.proofs.Common.{◌∙◌, ap}
use Rattle.hurd_views.specs.Views.{has_row}
use Rattle.hurd_views.proofs.RowLaws.{Kept, row_is_got}
use Rattle.hurd_views.proofs.view.Rows.has.Goals as goal

pub returns : goal.returns
returns c = c.contains_key.ensures ∙ (row_is_got c.self.inside.rows.entries c.args.name ∙ ap (λ (es : Kept). has_row es c.args.name) c.self.view_is)
