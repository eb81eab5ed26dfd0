use Rattle.hurd_teaching.proofs.laws.one_sight_is_printed.Goals as goal
use Rattle.hurd_teaching.proofs.OneText.{one_sight_is_printed}

pub returns : goal.returns
returns c = one_sight_is_printed
