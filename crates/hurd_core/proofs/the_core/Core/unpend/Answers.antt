-- The ports without the pending start, and what is left of the nodes, are the world without it.
use Rattle.std.proofs.Common.{None, refl}
use Rattle.std.proofs.lemmas.Result.{err_from_is_err_and}
use Rattle.hurd_machine.proofs.Common.{Errno, PortState, count_rights, shown, uses_server}
use Rattle.hurd_core.proofs.RightLaws.{unpend-follows}
use Rattle.std.proofs.Common.{None, ap, refl, ◌∙◌}
use Rattle.std.specs.Prelude.{Result}
use Rattle.hurd_core.proofs.UserLaws.{pend_same, users_still}
use Rattle.hurd_core.proofs.the_core.Core.unpend.Goals as goal

pub returns-in_err-unpend : goal.returns-in_err-unpend
returns-in_err-unpend g c =
    let p = err_from_is_err_and c.from_residual.result c.from_residual.ensures.1 in
    rw (p.1, p.2, ← c.self.view_is)
    (unpend-follows (shown g.S.Server.meaning c.self.inside.nodes) c.self.inside.ports.state c.args.task.0 None _ _ _ c.in_err-unpend.ensures.answer refl)

pub returns : goal.returns
returns g c =
    rw (← c.self.view_is)
    (unpend-follows (shown g.S.Server.meaning c.self.inside.nodes) c.self.inside.ports.state c.args.task.0 None _ _ _ c.in_ok-unpend.ensures.answer c.settle.ensures)

pub invariant_of-self-2 : goal.invariant_of-self-2
invariant_of-self-2 g c =
    let H = c.self.inside.ports.state in
    let T = uses_server c.self.inside.nodes.sites in
    users_still _ _ _ _ _ c.self.invariant refl (λ s. ap (λ (z : Result (Unit {0}) Errno × PortState). count_rights (T s) z.1.tasks) c.in_ok-unpend.ensures.answer ∙ pend_same (T s) H c.args.task.0 (λ n. refl) None)
