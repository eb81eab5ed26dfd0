use Rattle.hurd_trans_iface.specs.Behaviour.{writing}
use Rattle.hurd_small.proofs.LoneLaws.{done-kept}
use Rattle.hurd_small.proofs.lone.LoneServer.write.Goals as goal

pub returns-in-Some : goal.returns-in-Some
returns-in-Some g c =
    let s = c.args.self.now in
    let k = c.write.new.self in
    let done = done-kept (g.K.Keeper.kind s.keeper) (g.K.Keeper.text s.keeper) (g.K.Keeper.held s.keeper) s.presence c.in-Some.field-0 c.args.node c.in-Some.ensures.there (g.met.K.Keeper.no_tree s.keeper)
    (writing c.args.at c.args.bytes.now c.args.readers) c.write.result (g.K.Keeper.text k) (g.K.Keeper.held k) c.write.ensures.text c.write.ensures.steps in
    record { steps = rw c.write.ensures.kind done.0; stream = λ is_stream. done.1; within = λ reaches. done.1; nothing = λ empty. done.1 }
