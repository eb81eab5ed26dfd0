use Rattle.std.proofs.Common.{◌≡◌, drop}
use Rattle.hurd_words.specs.Reading.{behind}
use Rattle.hurd_lists.specs.Words.{bytes_after, bytes_of}
use Rattle.hurd_lists.proofs.words.unescaped.Given as goal

abbrev pub invariant-loop-byte : goal.invariant-loop-byte
invariant-loop-byte l = behind l.bytes.items (bytes_after l.escape (drop l.byte-index l.word)) ≡ bytes_of l.word
