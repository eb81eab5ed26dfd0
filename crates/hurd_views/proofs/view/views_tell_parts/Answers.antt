use Rattle.hurd_views.proofs.TellLaws.{views_tell_parts}
use Rattle.hurd_views.proofs.view.views_tell_parts.Goals as goal

pub returns : goal.returns
returns c = views_tell_parts
