use Rattle.hurd_pairs.proofs.laws.different_reply_implies_different_view.Goals as goal
use Rattle.hurd_pairs.proofs.ToldLaws.{told_by_seen}

pub returns : goal.returns
returns c = told_by_seen
