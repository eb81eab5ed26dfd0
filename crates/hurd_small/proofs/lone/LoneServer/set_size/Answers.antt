use Rattle.hurd_trans_iface.specs.Behaviour.{resizing}
use Rattle.hurd_small.proofs.LoneLaws.{done-kept}
use Rattle.hurd_small.proofs.lone.LoneServer.set_size.Goals as goal

pub returns-in-Some : goal.returns-in-Some
returns-in-Some g c =
    let s = c.args.self.now in
    let k = c.set_size.new.self in
    let done = done-kept (g.K.Keeper.kind s.keeper) (g.K.Keeper.text s.keeper) (g.K.Keeper.held s.keeper) s.presence c.in-Some.field-0 c.args.node c.in-Some.ensures.there (g.met.K.Keeper.no_tree s.keeper)
    (resizing c.args.size) c.set_size.result (g.K.Keeper.text k) (g.K.Keeper.held k) c.set_size.ensures.text c.set_size.ensures.steps in
    record { steps = rw c.set_size.ensures.kind done.0; stream = λ is_stream. done.1; cut = λ reaches. done.1 }
