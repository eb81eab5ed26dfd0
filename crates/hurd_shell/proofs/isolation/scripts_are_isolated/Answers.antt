use Rattle.hurd_shell.proofs.isolation.scripts_are_isolated.Goals as goal
use Rattle.hurd_shell.proofs.IsolationLaws.{isolated_commands, isolated_scripts}

pub returns : goal.returns
returns c = record { commands = isolated_commands; scripts = isolated_scripts }
