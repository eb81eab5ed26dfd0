use Rattle.std.proofs.Common.{◌≡◌, ◌≤◌, length, take}
use Rattle.hurd_teaching.specs.Limits.{whole_lines}
use Rattle.hurd_teaching.proofs.limits.whole_lines.Given as goal

abbrev pub invariant-loop-end : goal.invariant-loop-end
invariant-loop-end l = record { within : l.end ≤ length l.bytes; same_rest : whole_lines (take l.end l.bytes) ≡ whole_lines l.bytes }

abbrev pub decreases-loop-end : goal.decreases-loop-end
decreases-loop-end l = l.end
