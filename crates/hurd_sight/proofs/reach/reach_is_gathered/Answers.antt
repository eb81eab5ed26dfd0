use Rattle.hurd_sight.proofs.reach.reach_is_gathered.Goals as goal
use Rattle.hurd_sight.proofs.ReachLaws.{reach_is_gathered}

pub returns : goal.returns
returns c = reach_is_gathered
