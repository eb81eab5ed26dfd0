use Rattle.std.proofs.Common.{◌≡◌, ◌≤◌, ◌++◌, codes, drop}
use Rattle.hurd_lessons.specs.Differences.{entries_gone, signed_names}
use Rattle.hurd_lessons.proofs.differences.push_gone.Given as goal

abbrev pub invariant-loop-entry : goal.invariant-loop-entry
invariant-loop-entry l =
    (l.words.items ++ signed_names (codes " - ") (entries_gone l.by_name (drop l.entry-index l.old) (drop l.kept l.new)) ≡ l.fn.words.items ++ signed_names (codes " - ") (entries_gone l.by_name l.old l.new))
    × (l.kept ≤ l.entry-index)
