use Rattle.std.proofs.Common.{◌≡◌, take}
use Rattle.hurd_sight.specs.Parts.{with_rights}
use Rattle.hurd_sight.proofs.held.RightNames.add_rights.Given as goal

-- the names of the rights so far
abbrev pub invariant-loop-right : goal.invariant-loop-right
invariant-loop-right l = l.self ≡ with_rights l.ports.state.opens (take l.right-index l.rights) l.initial.self
