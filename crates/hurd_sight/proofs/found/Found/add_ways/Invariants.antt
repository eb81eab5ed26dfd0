use Rattle.std.proofs.Common.{◌≡◌, take}
use Rattle.std.specs.List.{flat_map}
use Rattle.hurd_sight.specs.Found.{gathered, of_way}
use Rattle.hurd_sight.proofs.found.Found.add_ways.Given as goal

-- what those so far show
abbrev pub invariant-loop-way : goal.invariant-loop-way
invariant-loop-way l = l.self ≡ gathered (flat_map (of_way) (take l.way-index l.ways)) l.initial.self
