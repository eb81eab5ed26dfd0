use Rattle.std.proofs.Common.{◌≡◌, ◌==◌, drop, map, string_bytes}
use Rattle.std.specs.List.{slice_split}
use Rattle.hurd_words.specs.Reading.{behind, good_words}
use Rattle.hurd_words.specs.Words.{text_of}
use Rattle.hurd_words.proofs.words.words_of.Given as goal

abbrev pub invariant-loop-piece : goal.invariant-loop-piece
invariant-loop-piece l =
    behind (map string_bytes l.words.items) (good_words text_of (drop l.piece-index (map (λ x. x.now) l.piece-items))) ≡ good_words text_of (slice_split (λ b. b == 32) l.line)
