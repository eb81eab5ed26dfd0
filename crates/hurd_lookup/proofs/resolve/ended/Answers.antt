-- Where a translator waits; what else a walk ended at is found by search.
use Rattle.std.proofs.Common.{refl}
use Rattle.hurd_lookup.proofs.resolve.ended.Goals as goal

pub returns-in-Starts : goal.returns-in-Starts
returns-in-Starts g c = let can = rw c.in-Starts.is at c.requires in rw c.in-Starts.is (λ onward. refl, can)
