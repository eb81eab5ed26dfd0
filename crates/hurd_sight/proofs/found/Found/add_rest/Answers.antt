use Rattle.hurd_nodes.specs.Shown.{shown}
use Rattle.hurd_sight.proofs.RoundLaws.{of_others}
use Rattle.hurd_sight.proofs.found.Found.add_rest.Goals as goal
use Rattle.std.proofs.lemmas.Result.{on_ok_weaker}

pub returns : goal.returns
returns g c =
    on_ok_weaker c.add_targets.result
    (λ targets. of_others (shown g.S.Server.meaning c.args.nodes.now) c.args.reach.now _ c.args.node c.in_ok-add_parent.ensures c.in_ok-add_server.ensures targets)
    c.add_targets.ensures
