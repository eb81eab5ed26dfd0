use Rattle.hurd_views.proofs.StayLaws.{views_stay}
use Rattle.hurd_views.proofs.view.views_stay.Goals as goal

pub returns : goal.returns
returns c = views_stay
