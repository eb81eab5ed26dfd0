use Rattle.std.proofs.Common.{◌≡◌, take}
use Rattle.std.specs.Prelude.{not}
use Rattle.hurd_nodes.specs.Shown.{shown}
use Rattle.hurd_sight.specs.Looks.{sees_with}
use Rattle.hurd_can.specs.Listed.{kept_if}
use Rattle.hurd_can.proofs.listing.not_shown.Given as goal

abbrev pub invariant-loop-part : goal.invariant-loop-part
invariant-loop-part g l = l.left.items ≡ kept_if (λ p. not (sees_with (shown g.S.Server.meaning l.nodes) l.sight p)) (take l.part-index l.parts)
