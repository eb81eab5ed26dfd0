use Rattle.std.proofs.Common.{arith}
use Rattle.std.specs.Prelude.{not}
use Rattle.hurd_nodes.specs.Shown.{shown}
use Rattle.hurd_sight.specs.Looks.{sees_with}
use Rattle.hurd_can.proofs.ListLaws.{kept_more}
use Rattle.hurd_can.proofs.listing.not_shown.Goals as goal

pub loop-part-preserved : goal.loop-part-preserved
loop-part-preserved g c =
    kept_more (λ p. not (sees_with (shown g.S.Server.meaning c.args.nodes.now) c.args.sight.now p)) c.args.parts.now c.loop-part.part-index _ c.loop-part.left.items c.add_if.new.parts.items (omega arith) c.loop-part.invariant
    (rw c.sees.ensures at c.in_ok-add_if.ensures)
