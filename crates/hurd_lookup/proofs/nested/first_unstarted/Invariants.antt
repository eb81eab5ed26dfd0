use Rattle.std.proofs.Common.{◌≡◌, ◌⊎◌}
use Rattle.hurd_core.specs.Core.{world_of}
use Rattle.hurd_lookup.specs.Ends.{HasWords}
use Rattle.hurd_lookup.specs.Nested.{HasAims, first_among, first_unstarted}
use Rattle.hurd_lookup.proofs.nested.first_unstarted.Given as goal

-- those that may still be asked lead from here where all do from the first; and from another the first is not left without targets
abbrev pub invariant-loop-left : goal.invariant-loop-left
invariant-loop-left g l =
    let w = world_of g.S.Server.meaning l.core in
    (first_among l.left w l.ids l.here ≡ first_unstarted w l.ids l.fn.node) × ((HasWords w l.fn.node → HasWords w l.here) × ((l.here ≡ l.fn.node) ⊎ HasAims w l.fn.node))

abbrev pub decreases-loop-left : goal.decreases-loop-left
decreases-loop-left g l = l.left
