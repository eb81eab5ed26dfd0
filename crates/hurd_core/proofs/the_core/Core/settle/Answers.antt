-- The nodes settle, and the ports are as they were.
use Rattle.hurd_machine.proofs.Common.{NodeState, count_rights, shown, uses_server}
use Rattle.hurd_machine.specs.World.{world_from}
use Rattle.std.proofs.Common.{sym, ap, ◌∙◌}
use Rattle.hurd_core.proofs.UsedLaws.{settle_users}
use Rattle.hurd_core.proofs.the_core.Core.settle.Goals as goal

pub returns : goal.returns
returns g c =
    rw (← c.self.view_is) (ap (λ N. world_from N c.self.inside.ports.state) c.settle.ensures.shown)

pub invariant_of-self : goal.invariant_of-self
invariant_of-self g c s =
    let ts = c.self.inside.ports.state.tasks in
    c.self.invariant s
    ∙ sym (settle_users (shown g.S.Server.meaning c.self.inside.nodes) ts c.nodes_are_served.ensures s)
    ∙ ap (λ (M : NodeState). count_rights (uses_server M.sites s) ts) (sym c.settle.ensures.shown)
