use Rattle.std.proofs.Common.{None, ap, refl, ◌∙◌}
use Rattle.std.specs.Prelude.{Result}
use Rattle.hurd_machine.proofs.Common.{Errno, PortState, count_rights, uses_server}
use Rattle.hurd_core.proofs.UserLaws.{pend_same, users_still}
use Rattle.hurd_core.proofs.the_core.Core.start_over.Goals as goal

pub invariant_of-self : goal.invariant_of-self
invariant_of-self g c =
    let H = c.self.inside.ports.state in
    let T = uses_server c.self.inside.nodes.sites in
    users_still _ _ _ _ _ c.self.invariant refl (λ s. ap (λ (z : Result (Unit {0}) Errno × PortState). count_rights (T s) z.1.tasks) c.unpend.ensures.answer ∙ pend_same (T s) H c.args.task.0 (λ n. refl) None)
