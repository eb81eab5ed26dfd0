use Rattle.std.proofs.Common.{◌≡◌, ◌++◌, drop}
use Rattle.hurd_words.specs.Spelling.{spelled_by}
use Rattle.hurd_words.proofs.spelling.push_bytes.Given as goal

abbrev pub invariant-loop-byte : goal.invariant-loop-byte
invariant-loop-byte l = l.text.items ++ spelled_by l.path (drop l.byte-index l.bytes) ≡ l.fn.text.items ++ spelled_by l.path l.bytes
