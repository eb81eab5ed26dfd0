use Rattle.std.proofs.Common.{◌≡◌, ◌++◌, drop}
use Rattle.hurd_vectors.specs.Json.{json}
use Rattle.hurd_vectors.proofs.json.push_bytes.Given as goal

abbrev pub invariant-loop-byte : goal.invariant-loop-byte
invariant-loop-byte l = l.text.items ++ json (drop l.byte-index l.bytes) ≡ l.fn.text.items ++ json l.bytes
