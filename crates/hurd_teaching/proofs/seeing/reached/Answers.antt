use Rattle.hurd_world.specs.Held.{world_of}
use Rattle.hurd_sight.proofs.ReachLaws.{if_ok, reach_is_gathered}
use Rattle.hurd_teaching.proofs.seeing.reached.Goals as goal

pub returns : goal.returns
returns g c =
    if_ok c.of.result
    (λ reach gathered. reach_is_gathered (world_of g.S.Server.meaning c.args.world.now) c.args.tasks.now reach (rw (c.ports.ensures, c.core.ensures) at gathered))
    c.of.ensures
