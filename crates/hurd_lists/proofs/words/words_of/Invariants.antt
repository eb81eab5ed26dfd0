use Rattle.std.proofs.Common.{◌≡◌, ◌==◌, drop}
use Rattle.std.specs.List.{slice_split}
use Rattle.hurd_words.specs.Reading.{behind, good_words, said}
use Rattle.hurd_lists.specs.Words.{bytes_of}
use Rattle.hurd_lists.proofs.words.words_of.Given as goal

abbrev pub invariant-loop-piece : goal.invariant-loop-piece
invariant-loop-piece l =
    behind l.words.items (good_words bytes_of (drop l.piece-index (said l.piece-items))) ≡ good_words bytes_of (slice_split (λ b. b == 32) l.line)
