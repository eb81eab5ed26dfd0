-- What the server answers and does is so in the world.
use Rattle.hurd_trans_iface.specs.Behaviour.{reading}
use Rattle.hurd_nodes.specs.Shown.{shown}
use Rattle.hurd_core.proofs.NeedLaws.{asked-does}
use Rattle.hurd_core.proofs.UserLaws.{users_stepped}
use Rattle.std.proofs.Common.{refl}
use Rattle.hurd_core.proofs.the_core.Core.read.Goals as goal

pub returns-clause-does : goal.returns-clause-does
returns-clause-does g c =
    let f = g.S.Server.meaning in
    rw (← c.writers-writers.ensures, ← c.self.view_is) (asked-does (shown f c.self.inside.nodes) c.self.inside.ports.state c.args.node (reading c.args.at c.args.amount c.writers-writers.result) c.read.result (shown f c.read.new.self) c.read.ensures.shown)

pub invariant_of-self : goal.invariant_of-self
invariant_of-self g c =
    let f = g.S.Server.meaning in users_stepped _ _ (shown f c.self.inside.nodes) (shown f c.read.new.self) _ _ c.self.invariant c.read.ensures.shown refl
