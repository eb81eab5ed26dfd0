use Rattle.std.proofs.Common.{◌≡◌, ◌++◌, filter}
use Rattle.hurd_shell.specs.Commands.{is_shown}
use Rattle.hurd_shell.proofs.commands.shown_names.Given as goal

abbrev pub invariant-loop-name : goal.invariant-loop-name
invariant-loop-name l = l.shown ≡ filter is_shown l.yielded
