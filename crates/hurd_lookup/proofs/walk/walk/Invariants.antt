-- The way along the names that are left leads where the whole does; and less is left.
use Rattle.std.proofs.Common.{◌≡◌, length}
use Rattle.hurd_core.specs.Core.{world_of}
use Rattle.hurd_lookup.specs.Path.{names_in}
use Rattle.hurd_lookup.specs.Lookup.{walk}
use Rattle.hurd_lookup.specs.Ends.{IsHere, authority_of}
use Rattle.hurd_lookup.proofs.walk.walk.Given as goal

abbrev pub invariant-loop-name : goal.invariant-loop-name
invariant-loop-name g l =
    (walk (world_of g.S.Server.meaning l.core) (authority_of l.authority) l.request l.here.node (names_in l.rest)
    ≡ walk (world_of g.S.Server.meaning l.core) (authority_of l.authority) l.request l.fn.start.node (names_in l.path))
    × IsHere (world_of g.S.Server.meaning l.core) l.here

abbrev pub decreases-loop-name : goal.decreases-loop-name
decreases-loop-name g l = length l.rest
