use Rattle.std.proofs.Common.{◌≡◌, ◌++◌, drop}
use Rattle.hurd_vectors.specs.Json.{name_bytes}
use Rattle.hurd_vectors.proofs.json.push_name_bytes.Given as goal

abbrev pub invariant-loop-byte : goal.invariant-loop-byte
invariant-loop-byte l = l.text.items ++ name_bytes (drop l.byte-index l.bytes) ≡ l.fn.text.items ++ name_bytes l.bytes
