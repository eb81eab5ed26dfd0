use Rattle.std.proofs.Common.{◌≡◌, ◌+◌, drop}
use Rattle.hurd_places.specs.Places.{number_in}
use Rattle.hurd_places.proofs.servers.number_in.Given as goal

abbrev pub invariant-loop-other : goal.invariant-loop-other
invariant-loop-other l = record {
  so_far : number_in l.node l.number (drop l.other-index l.nodes) ≡ number_in l.node l.first l.fn.nodes;
  counted : l.number ≡ l.first + l.other-index;
}
