use Rattle.std.proofs.Common.{◌≡◌, ◌++◌, drop}
use Rattle.hurd_pictures.specs.Nodes.{entries_text}
use Rattle.hurd_pictures.proofs.nodes.push_entries.Given as goal

abbrev pub invariant-loop-entry : goal.invariant-loop-entry
invariant-loop-entry l = l.text.items ++ entries_text l.view l.directory (drop l.entry-index l.entries) ≡ l.fn.text.items ++ entries_text l.view l.directory l.entries
