use Rattle.hurd_views.proofs.RowLaws.{agree_at}
use Rattle.hurd_views.proofs.view.Rows.agrees_at.Goals as goal

pub returns-in-Some : goal.returns-in-Some
returns-in-Some c =
    agree_at c.args.self.now c.args.other.now c.args.index c.in-Some.name _ _ c.same_rows.result c.same_rows.ensures c.get.ensures c.get-in-Some.ensures c.in-Some.ensures
