use Rattle.std.proofs.Common.{length}
use Rattle.hurd_lookup.proofs.resolve.+resolve_all.Given as goal

abbrev pub decreases-resolve_all : goal.decreases-resolve_all
decreases-resolve_all g l = length l.paths.now
