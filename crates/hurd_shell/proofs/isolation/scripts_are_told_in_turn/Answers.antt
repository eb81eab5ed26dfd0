use Rattle.hurd_shell.proofs.IsolationLaws.{one_part_each, told_in_turn}
use Rattle.hurd_shell.proofs.isolation.scripts_are_told_in_turn.Goals as goal

pub returns : goal.returns
returns c = record { parts = one_part_each; turns = told_in_turn }
