use Rattle.std.proofs.Common.{◌≡◌, drop}
use Rattle.hurd_can.specs.Tried.{with_lines}
use Rattle.hurd_can.proofs.trying.push_lines.Given as goal

-- with those that are left, these are all
abbrev pub invariant-loop-line : goal.invariant-loop-line
invariant-loop-line l = with_lines l.text.items (drop l.line-index l.lines) ≡ with_lines l.fn.text.items l.lines
