use Rattle.std.proofs.Common.{◌≡◌, drop}
use Rattle.hurd_pictures.specs.Found.{entry_name}
use Rattle.hurd_pictures.proofs.names.entry_name.Given as goal

abbrev pub invariant-loop-entry : goal.invariant-loop-entry
invariant-loop-entry l = entry_name (drop l.entry-index l.entries) l.fn.node ≡ entry_name l.fn.entries l.fn.node
