use Rattle.hurd_witnesses.proofs.WitnessLaws.{all_tell}
use Rattle.hurd_witnesses.proofs.laws.witnesses_tell.Goals as goal

pub returns : goal.returns
returns c = all_tell
