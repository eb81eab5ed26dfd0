use Rattle.std.proofs.Common.{◌≡◌, ◌++◌, ◌+◌, ℕ, length, Some}
use Rattle.hurd_places.specs.Places.{way_to}
use Rattle.hurd_places.proofs.paths.way_to.Given as goal

abbrev pub invariant-loop : goal.invariant-loop
invariant-loop l =
    (k : ℕ) × (l.counter + k ≡ length l.fn.found) × (l.way.items ++ way_to k l.found l.at ≡ way_to (length l.fn.found) l.fn.found (Some l.fn.node))
