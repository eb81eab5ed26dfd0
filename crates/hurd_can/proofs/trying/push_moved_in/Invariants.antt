use Rattle.std.proofs.Common.{◌≡◌, drop}
use Rattle.hurd_can.specs.Tried.{moved_in}
use Rattle.hurd_can.proofs.trying.push_moved_in.Given as goal

-- with those that are left, these are all
abbrev pub invariant-loop-line : goal.invariant-loop-line
invariant-loop-line l = moved_in l.text.items (drop l.line-index l.lines) ≡ moved_in l.fn.text.items l.lines
