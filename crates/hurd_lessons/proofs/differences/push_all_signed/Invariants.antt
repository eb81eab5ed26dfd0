use Rattle.std.proofs.Common.{◌≡◌, ◌++◌, drop}
use Rattle.hurd_lessons.specs.Differences.{signed_names}
use Rattle.hurd_lessons.proofs.differences.push_all_signed.Given as goal

abbrev pub invariant-loop-entry : goal.invariant-loop-entry
invariant-loop-entry l = l.words.items ++ signed_names l.sign (drop l.entry-index l.entries) ≡ l.fn.words.items ++ signed_names l.sign l.entries
