use Rattle.std.proofs.Common.{◌≡◌, ◌+◌, drop}
use Rattle.hurd_places.specs.Places.{sent_wanted}
use Rattle.hurd_places.proofs.labels.Wanted.sent.Given as goal

abbrev pub invariant-loop-right : goal.invariant-loop-right
invariant-loop-right l = record {
  so_far : sent_wanted l.self l.number (drop l.right-index l.rights) ≡ sent_wanted l.self 1 l.fn.rights;
  counted : l.number ≡ l.right-index + 1;
}
