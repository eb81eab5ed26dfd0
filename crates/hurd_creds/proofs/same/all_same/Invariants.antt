use Rattle.std.proofs.Common.{◌≡◌, take}
use Rattle.hurd_creds.proofs.same.all_same.Given as goal

-- the things so far are the same
abbrev pub invariant-loop-i : goal.invariant-loop-i
invariant-loop-i g l = take l.i l.some ≡ take l.i l.others
