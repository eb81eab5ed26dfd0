use Rattle.std.proofs.Common.{◌≡◌, ◌++◌, drop}
use Rattle.hurd_can.specs.Help.{pairs_of}
use Rattle.hurd_can.proofs.looking.pairs_of.Given as goal

-- with the pairs of those that are left, these are all
abbrev pub invariant-loop-i : goal.invariant-loop-i
invariant-loop-i l = l.pairs.items ++ pairs_of (drop l.i l.others) ≡ pairs_of l.others
