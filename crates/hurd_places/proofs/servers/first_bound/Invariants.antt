use Rattle.std.proofs.Common.{◌≡◌, drop}
use Rattle.hurd_places.specs.Places.{first_bound}
use Rattle.hurd_places.proofs.servers.first_bound.Given as goal

abbrev pub invariant-loop-i : goal.invariant-loop-i
invariant-loop-i l = first_bound l.view l.bond l.server (drop l.i l.found) ≡ first_bound l.view l.bond l.server l.fn.found
