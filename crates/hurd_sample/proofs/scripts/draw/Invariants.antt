use Rattle.std.proofs.Common.{◌≡◌, length}
use Rattle.hurd_sample.proofs.scripts.draw.Given as goal

abbrev pub invariant-loop-number : goal.invariant-loop-number
invariant-loop-number l = length l.commands.items ≡ l.number
