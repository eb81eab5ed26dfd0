use Rattle.hurd_sight.proofs.looks.parts_are_seen.Goals as goal
use Rattle.hurd_sight.proofs.PartLaws.{parts_are_seen}

pub returns : goal.returns
returns c = parts_are_seen
