-- The nodes without what is active on this one, and what is left of them, are the world without it.
use Rattle.std.proofs.Common.{ap, ◌∙◌}
use Rattle.hurd_machine.proofs.Common.{NodeState, home_in, world_from}
use Rattle.hurd_machine.specs.Change.{settle}
use Rattle.std.proofs.Common.{None}
use Rattle.hurd_nodes.proofs.Sites.{home-edited}
use Rattle.hurd_core.proofs.UserLaws.{users_homes}
use Rattle.hurd_core.proofs.the_core.Core.unseat.Goals as goal

pub returns : goal.returns
returns g c =
    rw (← c.self.view_is)
    (c.settle.ensures ∙ ap (λ (M : NodeState). settle (world_from M c.self.inside.ports.state)) c.unseat.ensures.shown)

pub invariant_of-self : goal.invariant_of-self
invariant_of-self g c =
    let sites = c.self.inside.nodes.sites in
    users_homes _ sites _ _ c.self.invariant (λ n. ap (λ (M : NodeState). home_in M.sites n) c.unseat.ensures.shown ∙ home-edited sites c.args.node None n)
