use Rattle.hurd_witnesses.proofs.OneFinding.{one_finding}
use Rattle.hurd_witnesses.proofs.laws.one_finding_is_printed.Goals as goal

pub returns : goal.returns
returns c = one_finding
