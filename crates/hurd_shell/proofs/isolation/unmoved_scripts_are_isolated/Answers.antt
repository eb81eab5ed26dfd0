use Rattle.hurd_shell.proofs.isolation.unmoved_scripts_are_isolated.Goals as goal
use Rattle.hurd_shell.proofs.IsolationLaws.{isolated_by_view, as_without_others}

pub returns : goal.returns
returns c = record { views = isolated_by_view; without = as_without_others }
