-- What is left has room in what is left exactly where all has in all; and less is left.
use Rattle.std.proofs.Common.{◌≡◌, length, nat_le}
use Rattle.hurd_lookup.specs.Path.{behind_slashes, names_in}
use Rattle.hurd_lookup.proofs.rest.fit_behind.Given as goal

abbrev pub invariant-loop-name : goal.invariant-loop-name
invariant-loop-name l = nat_le (length (behind_slashes (names_in l.rest))) l.room ≡ nat_le (length (behind_slashes (names_in l.fn.path))) l.fn.most

abbrev pub decreases-loop-name : goal.decreases-loop-name
decreases-loop-name l = length l.rest
