use Rattle.hurd_pictures.proofs.MarkLaws.{drawn_helped_where_more}
use Rattle.hurd_pictures.proofs.laws.drawn_helped_where_more.Goals as goal

pub returns : goal.returns
returns c = drawn_helped_where_more
