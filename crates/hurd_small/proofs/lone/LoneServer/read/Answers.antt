use Rattle.std.proofs.Common.{◌∙◌}
use Rattle.hurd_trans_iface.specs.Behaviour.{reading}
use Rattle.hurd_small.proofs.LoneLaws.{step-kept, told-kept}
use Rattle.hurd_small.specs.Calls.{TakesNone, Tries}
use Rattle.hurd_small.proofs.lone.LoneServer.read.Goals as goal

pub returns-in-Some : goal.returns-in-Some
unfolding TakesNone Tries
returns-in-Some g c =
    let s = c.args.self.now in
    let k = c.read.new.self in
    let r = c.in-Some.field-0 in
    let q = reading c.args.at c.args.amount c.args.writers in
    let kind = g.K.Keeper.kind s.keeper in
    let text = g.K.Keeper.text s.keeper in
    let held = g.K.Keeper.held s.keeper in
    let no_tree = g.met.K.Keeper.no_tree s.keeper in
    record {
      steps = rw c.read.ensures.kind (step-kept kind text held s.presence r c.args.node c.in-Some.ensures.there no_tree q c.read.result (g.K.Keeper.text k) (g.K.Keeper.held k) c.read.ensures.text (c.read.ensures.steps r));
      nothing = λ none. c.read.ensures.nothing r (told-kept kind text held s.presence r c.args.node c.in-Some.ensures.there no_tree q c.read.result ∙ none);
    }
