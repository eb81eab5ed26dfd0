use Rattle.hurd_sight.proofs.found.found_is_seen.Goals as goal
use Rattle.hurd_sight.proofs.FollowLaws.{found_is_one}
use Rattle.hurd_sight.proofs.PlainLaws.{plain_is_first}
use Rattle.hurd_sight.proofs.SightLaws.{found_is_seen}

pub returns : goal.returns
returns c = record { seen = found_is_seen; plain = plain_is_first; one = found_is_one }
