use Rattle.std.proofs.Common.{◌≡◌, ◌++◌, drop}
use Rattle.hurd_witnesses.specs.Trials.{lines_by}
use Rattle.hurd_witnesses.proofs.trials.lines_by.Given as goal

-- the lines so far, and those of the commands that are left
abbrev pub invariant-loop-command : goal.invariant-loop-command
invariant-loop-command l = l.lines.items ++ lines_by l.users (drop l.command-index l.commands) ≡ lines_by l.users l.commands
