use Rattle.std.proofs.Common.{◌≡◌, drop}
use Rattle.hurd_can.specs.Ways.{each_does}
use Rattle.hurd_can.proofs.ways.push_each.Given as goal

-- with those that are left, these are all
abbrev pub invariant-loop-member : goal.invariant-loop-member
invariant-loop-member l = each_does l.word l.path l.lines.items (drop l.member-index l.members) ≡ each_does l.word l.path l.fn.lines.items l.members
