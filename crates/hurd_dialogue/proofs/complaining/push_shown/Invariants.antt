use Rattle.std.proofs.Common.{◌≡◌, ◌++◌, drop}
use Rattle.hurd_dialogue.specs.Complaints.{shown}
use Rattle.hurd_dialogue.proofs.complaining.push_shown.Given as goal

abbrev pub invariant-loop-byte : goal.invariant-loop-byte
invariant-loop-byte l = l.text.items ++ shown (drop l.byte-index l.bytes) ≡ l.fn.text.items ++ shown l.bytes
