use Rattle.std.proofs.Common.{◌≡◌, take}
use Rattle.hurd_machine.proofs.Common.{body_of, flat_map, shown}
use Rattle.hurd_sight.specs.Found.{gathered, of_entry}
use Rattle.hurd_sight.proofs.found.Found.add_entries.Given as goal

-- what those so far show
abbrev pub invariant-loop-name : goal.invariant-loop-name
invariant-loop-name g l = l.self ≡ gathered (flat_map (of_entry l.dir (body_of (shown g.S.Server.meaning l.nodes).nodes l.dir)) (take l.name-index l.names)) l.initial.self
