use Rattle.std.proofs.Common.{◌≡◌, drop}
use Rattle.hurd_lessons.specs.Changes.{same_names}
use Rattle.hurd_lessons.proofs.changes.same_names.Given as goal

-- the names so far are the same
abbrev pub invariant-loop-i : goal.invariant-loop-i
invariant-loop-i l = same_names (drop l.i l.some) (drop l.i l.others) ≡ same_names l.some l.others
