use Rattle.std.proofs.Common.{◌≡◌, ◌==◌, drop}
use Rattle.std.specs.List.{slice_split}
use Rattle.hurd_words.specs.Reading.{behind, said}
use Rattle.hurd_words.specs.Users.{numbers_of}
use Rattle.hurd_words.proofs.users.listed.Given as goal

abbrev pub invariant-loop-part : goal.invariant-loop-part
invariant-loop-part l =
    behind l.numbers.items (numbers_of (drop l.part-index (said l.part-items))) ≡ numbers_of (slice_split (λ b. b == 44) l.fn.word)
