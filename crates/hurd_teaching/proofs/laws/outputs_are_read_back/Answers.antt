use Rattle.hurd_teaching.proofs.ReadingLaws.{read_back}
use Rattle.hurd_teaching.proofs.laws.outputs_are_read_back.Goals as goal

pub returns : goal.returns
returns c = read_back
