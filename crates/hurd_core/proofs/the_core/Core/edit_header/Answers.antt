-- The nodes with the header edited are the world with it.
use Rattle.hurd_machine.proofs.Common.{Errno, NodeState, shown}
use Rattle.hurd_core.proofs.EditLaws.{header-follow}
use Rattle.std.proofs.Common.{ap, refl}
use Rattle.std.specs.Prelude.{Result}
use Rattle.hurd_core.proofs.UserLaws.{users_still}
use Rattle.hurd_core.proofs.the_core.Core.edit_header.Goals as goal

pub returns : goal.returns
returns g c =
    rw (← c.self.view_is) (header-follow (shown g.S.Server.meaning c.self.inside.nodes) c.self.inside.ports.state c.args.node c.args.edit c.edit_header.result (shown g.S.Server.meaning c.edit_header.new.self) c.edit_header.ensures.shown)

pub invariant_of-self : goal.invariant_of-self
invariant_of-self g c = users_still _ _ _ _ _ c.self.invariant (ap (λ (z : Result (Unit {0}) Errno × NodeState). z.1.sites) c.edit_header.ensures.shown) (λ s. refl)
