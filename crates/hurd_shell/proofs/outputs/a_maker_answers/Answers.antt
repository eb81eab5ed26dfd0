use Rattle.hurd_shell.proofs.OutputLaws.{maker_answers}
use Rattle.hurd_shell.proofs.outputs.a_maker_answers.Goals as goal

pub returns : goal.returns
returns c = maker_answers
