-- The ports with the task's other ids are the world with them.
use Rattle.hurd_machine.proofs.Common.{Errno, PortState, count_rights, shown, uses_server}
use Rattle.hurd_core.proofs.RightLaws.{take_ids-follows}
use Rattle.std.proofs.Common.{ap, refl, ◌∙◌}
use Rattle.std.specs.Prelude.{Result}
use Rattle.hurd_core.proofs.UserLaws.{take_ids_same, users_still}
use Rattle.hurd_core.proofs.the_core.Core.take_ids.Goals as goal

pub returns : goal.returns
returns g c = rw (← c.self.view_is) (take_ids-follows (shown g.S.Server.meaning c.self.inside.nodes) c.self.inside.ports.state c.args.task.0 c.args.ids c.take_ids.result c.take_ids.new.self.state c.take_ids.ensures.answer)

pub invariant_of-self : goal.invariant_of-self
invariant_of-self g c =
    let H = c.self.inside.ports.state in
    let T = uses_server c.self.inside.nodes.sites in
    users_still _ _ _ _ _ c.self.invariant refl (λ s. ap (λ (z : Result (Unit {0}) Errno × PortState). count_rights (T s) z.1.tasks) c.take_ids.ensures.answer ∙ take_ids_same (T s) H c.args.task.0 c.args.ids)
