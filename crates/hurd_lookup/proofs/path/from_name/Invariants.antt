-- What is left has the same names' beginning, and gets shorter.
use Rattle.std.proofs.Common.{◌≡◌, length}
use Rattle.hurd_lookup.specs.Path.{from_name}
use Rattle.hurd_lookup.proofs.path.from_name.Given as goal

abbrev pub invariant-loop-rest : goal.invariant-loop-rest
invariant-loop-rest l = from_name l.rest ≡ from_name l.fn.path

abbrev pub decreases-loop-rest : goal.decreases-loop-rest
decreases-loop-rest l = length l.rest
