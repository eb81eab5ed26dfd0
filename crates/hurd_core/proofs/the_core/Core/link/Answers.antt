use Rattle.std.proofs.Common.{refl}
use Rattle.hurd_nodes.specs.Shown.{shown}
use Rattle.hurd_core.proofs.EditLaws.{link-does}
use Rattle.hurd_core.proofs.UserLaws.{users_stepped}
use Rattle.hurd_core.proofs.the_core.Core.link.Goals as goal

pub returns : goal.returns
returns g c =
    let f = g.S.Server.meaning in
    rw (← c.self.view_is) (link-does (shown f c.self.inside.nodes) c.self.inside.ports.state c.args.dir c.args.name.now c.args.node c.link.result (shown f c.link.new.self) c.link.ensures.shown)

pub invariant_of-self : goal.invariant_of-self
invariant_of-self g c =
    let f = g.S.Server.meaning in users_stepped _ _ (shown f c.self.inside.nodes) (shown f c.link.new.self) _ _ c.self.invariant c.link.ensures.shown refl
