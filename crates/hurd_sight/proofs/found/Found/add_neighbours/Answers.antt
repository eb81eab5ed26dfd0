use Rattle.hurd_nodes.specs.Shown.{shown}
use Rattle.hurd_sight.proofs.NodeLaws.{of_all}
use Rattle.hurd_sight.proofs.found.Found.add_neighbours.Goals as goal
use Rattle.std.proofs.lemmas.Result.{on_ok_weaker}

pub returns : goal.returns
returns g c =
    on_ok_weaker c.add_targets.result
    (λ targets. of_all _ (shown g.S.Server.meaning c.args.nodes.now) c.args.reach.now c.args.node c.in_ok-add_below.ensures c.in_ok-add_parent.ensures c.in_ok-add_active.ensures c.in_ok-add_server.ensures targets)
    c.add_targets.ensures
