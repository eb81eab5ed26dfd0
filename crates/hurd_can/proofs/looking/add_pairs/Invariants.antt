use Rattle.std.proofs.Common.{◌≡◌, ◌++◌, take}
use Rattle.hurd_can.specs.Help.{with_each}
use Rattle.hurd_can.proofs.looking.add_pairs.Given as goal

abbrev pub invariant-loop-other : goal.invariant-loop-other
invariant-loop-other l = l.pairs.items ≡ l.fn.pairs.items ++ with_each l.one (take l.other-index l.others)
