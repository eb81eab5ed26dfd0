use Rattle.hurd_pictures.proofs.MarkLaws.{drawn_unseen_where_unseen}
use Rattle.hurd_pictures.proofs.laws.drawn_unseen_where_unseen.Goals as goal

pub returns : goal.returns
returns c = drawn_unseen_where_unseen
