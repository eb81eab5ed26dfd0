use Rattle.hurd_lessons.proofs.laws.untaught_where_unmoved.Goals as goal
use Rattle.hurd_lessons.proofs.TaughtLaws.{untaught_where_unmoved}

pub returns : goal.returns
returns c = untaught_where_unmoved
