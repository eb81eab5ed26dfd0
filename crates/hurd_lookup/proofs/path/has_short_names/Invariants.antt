-- The names left are short exactly where all are; and less is left.
use Rattle.std.proofs.Common.{◌≡◌, length}
use Rattle.hurd_lookup.specs.Path.{has_short_names}
use Rattle.hurd_lookup.proofs.path.has_short_names.Given as goal

abbrev pub invariant-loop-name : goal.invariant-loop-name
invariant-loop-name l = has_short_names l.rest ≡ has_short_names l.fn.path

abbrev pub decreases-loop-name : goal.decreases-loop-name
decreases-loop-name l = length l.rest
