use Rattle.hurd_run.proofs.laws.silent_commands_can_be_left_out.Goals as goal
use Rattle.hurd_run.proofs.SilenceLaws.{as_without_the_silent}

pub returns : goal.returns
returns c = as_without_the_silent
