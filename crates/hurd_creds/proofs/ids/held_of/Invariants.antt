use Rattle.std.proofs.Common.{◌≡◌, take}
use Rattle.std.specs.List.{filter}
use Rattle.hurd_creds.specs.Access.{is_among}
use Rattle.hurd_creds.proofs.ids.held_of.Given as goal

-- those so far that are held
abbrev pub invariant-loop-id : goal.invariant-loop-id
invariant-loop-id l = l.found.items ≡ filter (is_among l.held) (take l.id-index l.asked)
