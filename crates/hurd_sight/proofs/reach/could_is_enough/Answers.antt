use Rattle.hurd_sight.proofs.reach.could_is_enough.Goals as goal
use Rattle.hurd_sight.proofs.CouldLaws.{could_is_enough}

pub returns : goal.returns
returns c = could_is_enough
