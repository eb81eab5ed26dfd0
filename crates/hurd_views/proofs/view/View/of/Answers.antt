use Rattle.std.proofs.Common.{◌≡◌, ◌∙◌, ap, length}
use Rattle.hurd_ports.specs.Tables.{Tables}
use Rattle.hurd_sight.specs.Reach.{among}
use Rattle.hurd_sight.specs.Looks.{Gathered, Looks}
use Rattle.hurd_views.proofs.LentLaws.{of_lent}
use Rattle.hurd_views.proofs.view.View.of.Goals as goal

pub returns : goal.returns
returns g c =
    let lent = of_lent g.S.Server.meaning c.args.core.now c.nodes.result.now c.ports-2.result.now c.nodes.ensures c.ports-2.ensures in
    let gathered = lent (λ w. (c.in_ok-sight.sight.tasks.items ≡ c.args.tasks.now) × Gathered w c.in_ok-sight.sight) c.in_ok-sight.ensures.gathered in
    record {
      looks = lent (λ w. Looks (among c.args.tasks.now) w c.in_ok-sight.sight) c.in_ok-sight.ensures.looks;
      ours = gathered.0;
      gathered = gathered.1;
      rows = c.in_ok-rows.ensures;
      seats = rw c.ports.ensures at c.in_ok-seats.ensures;
      count = c.task_count.ensures ∙ ap (λ (p : Tables). length p.state.tasks) c.ports-3.ensures;
    }
