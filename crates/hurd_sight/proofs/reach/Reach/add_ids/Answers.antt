use Rattle.hurd_sight.proofs.ReachLaws.{gains_ids}
use Rattle.hurd_sight.proofs.reach.Reach.add_ids.Goals as goal
use Rattle.std.proofs.lemmas.Result.{on_ok_weaker}

pub returns : goal.returns
returns c =
    on_ok_weaker c.gather-2.result
    (λ gids. rw (← c.self.view_is) (gains_ids c.self.inside.uids.keys c.gather.new.held.keys c.self.inside.gids.keys c.gather-2.new.held.keys c.uids.result.now c.gids.result.now c.args.ids.now c.uids.ensures c.gids.ensures c.in_ok-gather.ensures gids))
    c.gather-2.ensures
