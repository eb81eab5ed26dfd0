use Rattle.std.proofs.Common.{◌≡◌, map, take, string_bytes}
use Rattle.hurd_teaching.proofs.owners.copied_names.Given as goal

abbrev pub invariant-loop-name : goal.invariant-loop-name
invariant-loop-name l = l.copies.items ≡ map string_bytes (take l.name-index l.names)
