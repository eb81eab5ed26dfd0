-- What the server answers and does is so in the world.
use Rattle.hurd_machine.proofs.Common.{resizing, shown}
use Rattle.hurd_core.proofs.NeedLaws.{asked-does}
use Rattle.hurd_core.proofs.UserLaws.{users_stepped}
use Rattle.std.proofs.Common.{refl}
use Rattle.hurd_core.proofs.the_core.Core.set_size.Goals as goal

pub returns-clause-does : goal.returns-clause-does
returns-clause-does g c =
    let f = g.S.Server.meaning in
    rw (← c.self.view_is) (asked-does (shown f c.self.inside.nodes) c.self.inside.ports.state c.args.node (resizing c.args.size) c.set_size.result (shown f c.set_size.new.self) c.set_size.ensures.shown)

pub invariant_of-self : goal.invariant_of-self
invariant_of-self g c =
    let f = g.S.Server.meaning in users_stepped _ _ (shown f c.self.inside.nodes) (shown f c.set_size.new.self) _ _ c.self.invariant c.set_size.ensures.shown refl
