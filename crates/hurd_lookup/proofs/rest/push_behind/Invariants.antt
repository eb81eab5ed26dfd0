-- The text with the names that are left after it is the whole; and less is left.
use Rattle.std.proofs.Common.{◌≡◌, ◌++◌, length}
use Rattle.hurd_lookup.specs.Path.{behind_slashes, names_in}
use Rattle.hurd_lookup.proofs.rest.push_behind.Given as goal

abbrev pub invariant-loop-name : goal.invariant-loop-name
invariant-loop-name l = l.text.items ++ behind_slashes (names_in l.rest) ≡ l.fn.text.items ++ behind_slashes (names_in l.fn.path)

abbrev pub decreases-loop-name : goal.decreases-loop-name
decreases-loop-name l = length l.rest
