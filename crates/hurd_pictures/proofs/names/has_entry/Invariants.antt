use Rattle.std.proofs.Common.{◌≡◌, drop}
use Rattle.hurd_pictures.specs.Found.{has_entry}
use Rattle.hurd_pictures.proofs.names.has_entry.Given as goal

abbrev pub invariant-loop-entry : goal.invariant-loop-entry
invariant-loop-entry l = has_entry (drop l.entry-index l.entries) l.fn.node ≡ has_entry l.fn.entries l.fn.node
