use Rattle.std.proofs.Common.{◌≡◌, ◌++◌, drop}
use Rattle.hurd_pictures.specs.Labels.{label}
use Rattle.hurd_pictures.proofs.bytes.push_label.Given as goal

abbrev pub invariant-loop-byte : goal.invariant-loop-byte
invariant-loop-byte l = l.text.items ++ label (drop l.byte-index l.bytes) ≡ l.fn.text.items ++ label l.bytes
