use Rattle.hurd_sitting.proofs.PartLaws.{as_one}
use Rattle.hurd_sitting.proofs.laws.calls_are_one.Goals as goal

pub returns : goal.returns
returns c = as_one
