use Rattle.hurd_can.proofs.OneCould.{one_could}
use Rattle.hurd_can.proofs.laws.one_could_is_printed.Goals as goal

pub returns : goal.returns
returns c = one_could
