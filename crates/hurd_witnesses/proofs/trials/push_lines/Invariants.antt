use Rattle.std.proofs.Common.{◌≡◌, ◌++◌, map, take}
use Rattle.hurd_witnesses.specs.Trials.{line_by}
use Rattle.hurd_witnesses.proofs.trials.push_lines.Given as goal

abbrev pub invariant-loop-user : goal.invariant-loop-user
invariant-loop-user l = l.lines.items ≡ l.fn.lines.items ++ map (line_by l.command) (take l.user-index l.users)
