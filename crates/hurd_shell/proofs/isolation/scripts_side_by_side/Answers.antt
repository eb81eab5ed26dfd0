use Rattle.hurd_shell.proofs.isolation.scripts_side_by_side.Goals as goal
use Rattle.hurd_shell.proofs.IsolationLaws.{commands_side_by_side, scripts_side_by_side}

pub returns : goal.returns
returns c = record { commands = commands_side_by_side; scripts = scripts_side_by_side }
