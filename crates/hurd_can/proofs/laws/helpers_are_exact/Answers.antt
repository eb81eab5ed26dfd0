use Rattle.hurd_can.specs.Help.{AreEnough, IsEnough, pairs_of}
use Rattle.hurd_can.proofs.PickLaws.{picks_those}
use Rattle.hurd_can.proofs.laws.helpers_are_exact.Goals as goal

pub returns : goal.returns
returns c = λ w who others p help is.
    (λ d. picks_those (IsEnough w who p) others help.ones is.ones d, λ pair. picks_those (AreEnough w who p) (pairs_of others) help.twos is.twos pair)
