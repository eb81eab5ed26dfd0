use Rattle.std.proofs.Common.{◌≡◌, take}
use Rattle.hurd_pairs.proofs.matching.same_ids.Given as goal

-- the ids so far are the same
abbrev pub invariant-loop-i : goal.invariant-loop-i
invariant-loop-i l = take l.i l.some ≡ take l.i l.others
