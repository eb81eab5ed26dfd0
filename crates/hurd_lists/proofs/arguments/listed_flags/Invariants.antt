use Rattle.std.proofs.Common.{◌≡◌, ◌==◌, drop}
use Rattle.std.specs.List.{slice_split}
use Rattle.hurd_words.specs.Reading.{said}
use Rattle.hurd_lists.specs.Arguments.{with_names}
use Rattle.hurd_lists.proofs.arguments.listed_flags.Given as goal

abbrev pub invariant-loop-name : goal.invariant-loop-name
invariant-loop-name g l =
    with_names g.F.Flags.table (g.F.Flags.set_of l.flags) (drop l.name-index (said l.name-items)) ≡ with_names g.F.Flags.table 0 (slice_split (λ b. b == 44) l.word)
