use Rattle.hurd_nodes.specs.Shown.{shown}
use Rattle.hurd_sight.proofs.RoundLaws.{of_both}
use Rattle.hurd_sight.proofs.found.Found.add_plain.Goals as goal
use Rattle.std.proofs.lemmas.Result.{on_ok_weaker}

pub returns : goal.returns
returns g c =
    on_ok_weaker c.add_active.result (λ active. of_both (shown g.S.Server.meaning c.args.nodes.now) c.args.reach.now _ c.args.node c.in_ok-add_below.ensures active) c.add_active.ensures
