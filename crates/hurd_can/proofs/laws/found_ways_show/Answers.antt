use Rattle.hurd_can.specs.Tried.{ShowsWith}
use Rattle.hurd_can.proofs.TriedLaws.{found_shows}
use Rattle.hurd_can.proofs.laws.found_ways_show.Goals as goal

pub returns : goal.returns
returns c = λ sort who p text one other lines found. found_shows (ShowsWith sort who p text) one other lines found
