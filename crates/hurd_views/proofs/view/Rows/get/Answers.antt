use Rattle.std.proofs.Common.{◌∙◌, ap}
use Rattle.hurd_views.specs.Views.{or_no_row, row_at}
use Rattle.hurd_views.proofs.RowLaws.{Kept, row_got}
use Rattle.hurd_views.proofs.view.Rows.get.Goals as goal

pub returns : goal.returns
returns c = ap or_no_row c.get.ensures.value ∙ (row_got c.self.inside.rows.entries c.args.name ∙ ap (λ (es : Kept). row_at es c.args.name) c.self.view_is)
