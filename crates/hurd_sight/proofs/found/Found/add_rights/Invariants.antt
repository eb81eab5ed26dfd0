use Rattle.std.proofs.Common.{◌≡◌, take}
use Rattle.hurd_machine.proofs.Common.{flat_map, shown}
use Rattle.hurd_sight.specs.Found.{gathered, of_right}
use Rattle.hurd_sight.proofs.found.Found.add_rights.Given as goal

-- what those so far show
abbrev pub invariant-loop-right : goal.invariant-loop-right
invariant-loop-right g l = l.self ≡ gathered (flat_map (of_right (shown g.S.Server.meaning l.nodes)) (take l.right-index l.rights)) l.initial.self
