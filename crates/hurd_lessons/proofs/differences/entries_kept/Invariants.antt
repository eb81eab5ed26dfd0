use Rattle.std.proofs.Common.{◌≡◌, ◌≤◌, drop}
use Rattle.hurd_lessons.specs.Differences.{entries_new}
use Rattle.hurd_lessons.proofs.differences.entries_kept.Given as goal

abbrev pub invariant-loop-entry : goal.invariant-loop-entry
invariant-loop-entry l = (entries_new l.by_name (drop l.entry-index l.old) (drop l.kept l.new) ≡ entries_new l.by_name l.old l.new) × (l.kept ≤ l.entry-index)
