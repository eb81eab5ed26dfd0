-- The ports with the right as a port are the world with it.
use Rattle.hurd_machine.proofs.Common.{shown}
use Rattle.hurd_core.proofs.RightLaws.{receive-does}
use Rattle.std.proofs.Common.{refl}
use Rattle.hurd_core.proofs.UserLaws.{received_users, users_still}
use Rattle.hurd_core.proofs.the_core.Core.receive.Goals as goal

pub returns : goal.returns
returns g c = rw (← c.self.view_is) (receive-does (shown g.S.Server.meaning c.self.inside.nodes) c.self.inside.ports.state c.args.task.0 c.receive.result c.receive.new.self.state c.receive.ensures.answer)

pub invariant_of-self : goal.invariant_of-self
invariant_of-self g c =
    let N = shown g.S.Server.meaning c.self.inside.nodes in
    let H = c.self.inside.ports.state in
    users_still _ _ _ _ _ c.self.invariant refl (λ s. received_users N H _ c.args.task.0 s c.receive.result (receive-does N H c.args.task.0 _ _ c.receive.ensures.answer))
