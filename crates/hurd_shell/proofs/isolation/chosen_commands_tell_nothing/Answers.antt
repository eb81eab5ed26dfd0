use Rattle.hurd_shell.proofs.isolation.chosen_commands_tell_nothing.Goals as goal
use Rattle.hurd_shell.proofs.ChosenLaws.{chosen_commands_tell_nothing}

pub returns : goal.returns
returns c = chosen_commands_tell_nothing
