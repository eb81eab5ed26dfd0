use Rattle.std.proofs.Common.{◌≡◌, ◌++◌, drop}
use Rattle.hurd_sample.specs.Written.{commands_text}
use Rattle.hurd_sample.proofs.scripts.push_commands.Given as goal

abbrev pub invariant-loop-command : goal.invariant-loop-command
invariant-loop-command l = l.text.items ++ commands_text (drop l.command-index l.commands) ≡ l.fn.text.items ++ commands_text l.commands
