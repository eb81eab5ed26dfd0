use Rattle.hurd_small.proofs.LoneLaws.{options-taken}
use Rattle.hurd_small.proofs.lone.LoneServer.set_options.Goals as goal

pub returns-clause-steps : goal.returns-clause-steps
returns-clause-steps g c =
    let s = c.args.self.now in
    rw (c.set_options.ensures.kind, c.set_options.ensures.held) (options-taken (g.K.Keeper.kind s.keeper) (g.K.Keeper.text s.keeper) (g.K.Keeper.held s.keeper) s.presence (g.met.K.Keeper.no_tree s.keeper) c.args.words.now c.set_options.result (g.K.Keeper.text c.set_options.new.self) c.set_options.ensures.steps)
