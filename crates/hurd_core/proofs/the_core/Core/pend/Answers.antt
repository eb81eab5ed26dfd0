-- The ports with the pending start, and what is left of the nodes, are the world with it.
use Rattle.std.proofs.Common.{Some}
use Rattle.std.proofs.lemmas.Result.{err_from_is_err_and}
use Rattle.hurd_machine.proofs.Common.{shown, uses_server}
use Rattle.hurd_core.proofs.RightLaws.{pend-does}
use Rattle.std.proofs.Common.{ap, refl, ◌∙◌}
use Rattle.hurd_core.proofs.UserLaws.{pend_same, users_still}
use Rattle.hurd_ports.specs.Tables.{PortState, count_rights}
use Rattle.hurd_core.proofs.the_core.Core.pend.Goals as goal

pub returns-in_err-pend : goal.returns-in_err-pend
returns-in_err-pend g c =
    let p = err_from_is_err_and c.from_residual.result c.from_residual.ensures.1 in
    rw (p.1, p.2, ← c.self.view_is)
    (pend-does (shown g.S.Server.meaning c.self.inside.nodes) c.self.inside.ports.state c.args.task.0 (Some c.args.start) _ _ c.in_err-pend.ensures.answer _ refl)

pub returns : goal.returns
returns g c =
    rw (← c.self.view_is)
    (pend-does (shown g.S.Server.meaning c.self.inside.nodes) c.self.inside.ports.state c.args.task.0 (Some c.args.start) _ _ c.in_ok-pend.ensures.answer _ c.settle.ensures)

pub invariant_of-self-2 : goal.invariant_of-self-2
invariant_of-self-2 g c =
    let H = c.self.inside.ports.state in
    let T = uses_server c.self.inside.nodes.sites in
    users_still _ _ _ _ _ c.self.invariant refl (λ s. ap (λ (K : PortState). count_rights (T s) K.tasks) c.in_ok-pend.ensures.answer.left ∙ pend_same (T s) H c.args.task.0 (λ n. refl) (Some c.args.start))
