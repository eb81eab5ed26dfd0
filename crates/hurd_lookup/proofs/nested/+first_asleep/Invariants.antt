use Rattle.std.proofs.Common.{length}
use Rattle.hurd_lookup.proofs.nested.+first_asleep.Given as goal

abbrev pub decreases-first_asleep : goal.decreases-first_asleep
decreases-first_asleep g l = length l.paths.now
