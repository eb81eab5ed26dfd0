use Rattle.hurd_views.proofs.OneView.{views_are_one}
use Rattle.hurd_views.proofs.ViewLaws.{rows_are_views}
use Rattle.hurd_views.proofs.view.rows_are_views.Goals as goal

pub returns : goal.returns
returns c = record { same = rows_are_views; one = views_are_one }
