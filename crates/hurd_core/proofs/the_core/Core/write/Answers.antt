-- What the server answers and does is so in the world.
use Rattle.hurd_machine.proofs.Common.{shown, writing}
use Rattle.hurd_core.proofs.NeedLaws.{asked-does}
use Rattle.hurd_core.proofs.UserLaws.{users_stepped}
use Rattle.std.proofs.Common.{refl}
use Rattle.hurd_core.proofs.the_core.Core.write.Goals as goal

pub returns-clause-does : goal.returns-clause-does
returns-clause-does g c =
    let f = g.S.Server.meaning in
    rw (← c.readers-readers.ensures, ← c.self.view_is) (asked-does (shown f c.self.inside.nodes) c.self.inside.ports.state c.args.node (writing c.args.at c.args.bytes.now c.readers-readers.result) c.write.result (shown f c.write.new.self) c.write.ensures.shown)

pub invariant_of-self : goal.invariant_of-self
invariant_of-self g c =
    let f = g.S.Server.meaning in users_stepped _ _ (shown f c.self.inside.nodes) (shown f c.write.new.self) _ _ c.self.invariant c.write.ensures.shown refl
