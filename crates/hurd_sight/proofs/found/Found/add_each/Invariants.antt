use Rattle.std.proofs.Common.{◌≡◌, take}
use Rattle.std.specs.List.{flat_map}
use Rattle.hurd_sight.specs.Found.{gathered, of_target}
use Rattle.hurd_sight.proofs.found.Found.add_each.Given as goal

-- what those so far show
abbrev pub invariant-loop-target : goal.invariant-loop-target
invariant-loop-target l = l.self ≡ gathered (flat_map (of_target l.node) (take l.target-index l.targets)) l.initial.self
