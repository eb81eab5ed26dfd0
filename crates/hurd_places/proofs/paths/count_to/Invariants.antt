use Rattle.std.proofs.Common.{◌≡◌, ◌≤◌, ◌+◌, drop}
use Rattle.hurd_places.specs.Places.{count_to}
use Rattle.hurd_places.proofs.paths.count_to.Given as goal

abbrev pub invariant-loop-i : goal.invariant-loop-i
invariant-loop-i l = record {
  so_far : l.count + count_to l.why l.node (drop l.i l.found) ≡ count_to l.why l.node l.fn.found;
  few : l.count ≤ l.i;
}
