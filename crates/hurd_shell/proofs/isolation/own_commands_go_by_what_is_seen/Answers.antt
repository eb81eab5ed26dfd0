use Rattle.hurd_shell.proofs.isolation.own_commands_go_by_what_is_seen.Goals as goal
use Rattle.hurd_shell.proofs.IsolationLaws.{own_command}

pub returns : goal.returns
returns c = own_command
