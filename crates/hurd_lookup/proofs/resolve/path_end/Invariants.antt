use Rattle.std.proofs.Common.{◌≡◌}
use Rattle.hurd_core.specs.Core.{world_of}
use Rattle.hurd_lookup.specs.Legs.{leg_of}
use Rattle.hurd_lookup.specs.Resolve.{path_end, legs}
use Rattle.hurd_lookup.proofs.resolve.path_end.Given as goal

-- the looks that are left lead where the path does
abbrev pub invariant-loop-left : goal.invariant-loop-left
invariant-loop-left g l = let w = world_of g.S.Server.meaning l.core in legs l.left w l.ids (leg_of l.leg) ≡ path_end w l.ids l.path

abbrev pub decreases-loop-left : goal.decreases-loop-left
decreases-loop-left g l = l.left
