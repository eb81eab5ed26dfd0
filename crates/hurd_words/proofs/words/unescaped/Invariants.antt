use Rattle.std.proofs.Common.{◌≡◌, false, drop, string_bytes}
use Rattle.hurd_words.specs.Reading.{behind}
use Rattle.hurd_words.specs.Words.{has_hidden_byte, text_after, text_of}
use Rattle.hurd_words.proofs.words.unescaped.Given as goal

abbrev pub invariant-loop-byte : goal.invariant-loop-byte
invariant-loop-byte l =
    record {
      visible : has_hidden_byte (drop l.byte-index l.word) ≡ false;
      so_far : behind (string_bytes l.text) (text_after l.escaped (drop l.byte-index l.word)) ≡ text_of l.word;
    }
