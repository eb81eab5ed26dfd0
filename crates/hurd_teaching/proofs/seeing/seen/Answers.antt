use Rattle.hurd_sight.proofs.ReachLaws.{if_ok}
use Rattle.hurd_views.proofs.LentLaws.{seen_lent}
use Rattle.hurd_teaching.proofs.seeing.seen.Goals as goal

pub returns : goal.returns
returns g c =
    if_ok c.of.result
    (λ found all. seen_lent g.S.Server.meaning c.args.world.now.core c.core-core.result.now c.nodes.result.now c.ports.result.now c.args.tasks.now c.in_ok-reach.reach found c.nodes.ensures c.ports.ensures c.core-core.ensures c.in_ok-reach.ensures all)
    c.of.ensures
