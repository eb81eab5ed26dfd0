use Rattle.std.proofs.Common.{◌∙◌}
use Rattle.hurd_core.specs.Core.{world_of}
use Rattle.hurd_creds.proofs.StepLaws.{on_success}
use Rattle.hurd_views.proofs.RowLaws.{row_filled}
use Rattle.hurd_views.proofs.view.Rows.add.Goals as goal

pub unwrap-requires : goal.unwrap-requires
unwrap-requires g c = c.insert.ensures.succeeds c.in_ok-reserve.ensures.ok

pub returns : goal.returns
returns g c =
    row_filled (world_of g.S.Server.meaning c.args.core.now) c.args.sight.now c.args.self.now c.reserve.new.self.entries c.insert.new.self.entries c.args.name c.in_ok-row.row
    c.in_ok-row.ensures (c.in_ok-reserve.ensures.entries ∙ c.self.view_is)
    (on_success c.insert.result (c.insert.ensures.succeeds c.in_ok-reserve.ensures.ok) c.insert.ensures.entries)
