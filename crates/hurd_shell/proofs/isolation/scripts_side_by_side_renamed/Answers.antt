use Rattle.hurd_shell.proofs.isolation.scripts_side_by_side_renamed.Goals as goal
use Rattle.hurd_shell.proofs.Looks.{commands_by_looks, own_command_looks, scripts_by_looks}

pub returns : goal.returns
returns c = record { command = own_command_looks; commands = commands_by_looks; scripts = scripts_by_looks }
