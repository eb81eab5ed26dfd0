use Rattle.std.proofs.Common.{◌≡◌, ◌++◌, drop}
use Rattle.hurd_lessons.specs.Seen.{entry_names}
use Rattle.hurd_lessons.proofs.seen_parts.push_entries.Given as goal

abbrev pub invariant-loop-entry : goal.invariant-loop-entry
invariant-loop-entry l = l.words.items ++ entry_names (drop l.entry-index l.entries) ≡ l.fn.words.items ++ entry_names l.entries
