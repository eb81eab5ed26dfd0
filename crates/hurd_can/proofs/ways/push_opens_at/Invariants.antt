use Rattle.std.proofs.Common.{◌≡◌, drop}
use Rattle.hurd_can.specs.Ways.{opens_at}
use Rattle.hurd_can.proofs.ways.push_opens_at.Given as goal

-- with those that are left, these are all
abbrev pub invariant-loop-member : goal.invariant-loop-member
invariant-loop-member l = opens_at l.roots l.path l.lines.items (drop l.member-index l.members) ≡ opens_at l.roots l.path l.fn.lines.items l.members
