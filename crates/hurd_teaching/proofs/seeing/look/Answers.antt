use Rattle.hurd_sight.specs.Looks.{Looks}
use Rattle.hurd_sight.specs.Reach.{among}
use Rattle.hurd_sight.proofs.ReachLaws.{if_ok}
use Rattle.hurd_views.proofs.LentLaws.{of_lent_core}
use Rattle.hurd_teaching.proofs.seeing.look.Goals as goal

pub returns : goal.returns
returns g c =
    let lent = of_lent_core g.S.Server.meaning c.args.world.now.core c.core-core.result.now c.nodes.result.now c.ports.result.now c.nodes.ensures c.ports.ensures c.core-core.ensures in
    if_ok c.of.result (λ sight looks. lent (λ w. Looks (among c.args.tasks.now) w sight) looks) c.of.ensures.looks
