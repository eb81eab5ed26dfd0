-- The nodes with the server's other text are the world with it.
use Rattle.hurd_nodes.specs.Shown.{shown}
use Rattle.hurd_core.proofs.OptionLaws.{options-planned, options-follow}
use Rattle.hurd_core.proofs.OptionLaws.{options-sites}
use Rattle.hurd_core.proofs.UserLaws.{users_stepped}
use Rattle.hurd_core.proofs.the_core.Core.set_options.Goals as goal

pub returns-clause-planned : goal.returns-clause-planned
returns-clause-planned g c =
    rw (← c.self.view_is) (options-planned (shown g.S.Server.meaning c.self.inside.nodes) c.self.inside.ports.state c.args.server c.args.words.now c.set_options.result (shown g.S.Server.meaning c.set_options.new.self) c.set_options.ensures.shown)

pub returns-clause-free : goal.returns-clause-free
returns-clause-free g c none =
    rw (← c.self.view_is) (options-follow (shown g.S.Server.meaning c.self.inside.nodes) c.self.inside.ports.state c.args.server c.args.words.now c.set_options.result (shown g.S.Server.meaning c.set_options.new.self) (c.set_options.ensures.no_words none))

pub invariant_of-self : goal.invariant_of-self
invariant_of-self g c =
    let f = g.S.Server.meaning in
    users_stepped _ _ (shown f c.self.inside.nodes) (shown f c.set_options.new.self) _ _ c.self.invariant c.set_options.ensures.shown (options-sites (shown f c.self.inside.nodes) c.self.inside.ports.state c.args.server c.args.words.now)
