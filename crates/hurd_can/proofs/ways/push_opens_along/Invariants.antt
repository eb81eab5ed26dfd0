use Rattle.std.proofs.Common.{◌≡◌, [], drop, map}
use Rattle.hurd_can.specs.Ways.{opens_along}
use Rattle.hurd_can.proofs.ways.push_opens_along.Given as goal

-- with those that are left, these are all
abbrev pub invariant-loop-name : goal.invariant-loop-name
invariant-loop-name l = opens_along l.roots l.members l.path.items l.lines.items (map (λ name. name.now) (drop l.name-index l.names)) ≡ opens_along l.roots l.members [] l.fn.lines.items (map (λ name. name.now) l.names)
