-- The nodes without the server, and what is left of them, are the world without it.
use Rattle.std.proofs.Common.{ap, ◌∙◌}
use Rattle.hurd_machine.proofs.Common.{NodeState, world_from}
use Rattle.hurd_machine.specs.Change.{settle}
use Rattle.std.proofs.Common.{refl}
use Rattle.hurd_core.proofs.UserLaws.{users_forgotten, users_still}
use Rattle.hurd_core.proofs.the_core.Core.send_away.Goals as goal

pub returns : goal.returns
returns g c = rw (← c.self.view_is) (c.settle.ensures ∙ ap (λ (M : NodeState). settle (world_from M c.self.inside.ports.state)) c.detach.ensures.shown)

pub invariant_of-self : goal.invariant_of-self
invariant_of-self g c =
    let ts = c.self.inside.ports.state.tasks in
    users_still _ _ _ ts ts (users_forgotten c.self.inside.nodes.sites ts c.args.server _ _ c.self.invariant c.forget.ensures.none) (ap (λ (M : NodeState). M.sites) c.detach.ensures.shown) (λ s. refl)
