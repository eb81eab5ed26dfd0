use Rattle.std.proofs.Common.{◌∙◌, ap}
use Rattle.std.specs.FinMap as fin
use Rattle.hurd_ports.specs.Tables.{Tables, count_rights, names_open}
use Rattle.hurd_views.proofs.ToldLaws.{open_told}
use Rattle.hurd_views.proofs.told.opened_of.Goals as goal

pub returns : goal.returns
returns g c =
    open_told _ _ _ _ _ c.if-not-sees.ensures
    (c.opened.ensures ∙ ap (λ (p : Tables). fin.get p.state.opens c.args.name) c.ports-ports.ensures)
    (c.holders.ensures ∙ ap (λ (p : Tables). count_rights (names_open c.args.name) p.state.tasks) c.ports-ports.ensures)
