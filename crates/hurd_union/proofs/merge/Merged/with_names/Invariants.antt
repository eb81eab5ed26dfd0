use Rattle.std.proofs.Common.{◌≡◌}
use Rattle.hurd_union.specs.Merge.{merge}
use Rattle.hurd_union.specs.There.{Tells}
use Rattle.hurd_union.proofs.merge.Merged.with_names.Given as goal

-- the set has the names so far, and with those that are left they come to what is wanted
abbrev pub invariant-loop-name : goal.invariant-loop-name
invariant-loop-name l = record {
  tells : Tells l.there.keys l.names;
  comes : merge l.names l.name-iterator.rest.items ≡ merge l.fn.self l.fn.more;
}
