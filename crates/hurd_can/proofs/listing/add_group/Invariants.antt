use Rattle.std.proofs.Common.{◌≡◌, ◌++◌, take}
use Rattle.hurd_can.specs.Listed.{parts_of}
use Rattle.hurd_can.proofs.listing.add_group.Given as goal

-- the parts of the things before this one are added
abbrev pub invariant-loop-i : goal.invariant-loop-i
invariant-loop-i l = l.parts.items ≡ l.fn.parts.items ++ parts_of l.group l.view (take l.i l.view.rows)
