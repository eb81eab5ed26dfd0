use Rattle.std.proofs.Common.{◌≡◌, drop}
use Rattle.hurd_places.specs.Places.{entry_name}
use Rattle.hurd_places.proofs.paths.entry_name.Given as goal

abbrev pub invariant-loop-entry : goal.invariant-loop-entry
invariant-loop-entry l = entry_name (drop l.entry-index l.entries) l.fn.node ≡ entry_name l.fn.entries l.fn.node
