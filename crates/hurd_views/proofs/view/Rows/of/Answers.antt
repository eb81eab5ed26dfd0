use Rattle.hurd_core.specs.Core.{world_of}
use Rattle.hurd_views.proofs.RowLaws.{all_filled}
use Rattle.hurd_views.proofs.view.Rows.of.Goals as goal

pub returns : goal.returns
returns g c =
    all_filled _ _ _ _ _ (world_of g.S.Server.meaning c.args.core.now) c.args.sight.now c.new.ensures.empty c.in_ok-fill_found.ensures (rw c.opens.ensures at c.in_ok-fill.ensures)
    (rw c.known.ensures at c.in_ok-fill-2.ensures) (rw c.controlled.ensures at c.in_ok-fill-3.ensures)
