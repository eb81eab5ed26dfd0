-- The ports with the right sent are the world with it, and so are the users of its node's server.
use Rattle.std.proofs.Common.{refl, sym, inl, inr, ap}
use Rattle.std.specs.Prelude.{is_ok}
use Rattle.std.proofs.lemmas.Result.{err_from_is_err_and}
use Rattle.hurd_nodes.specs.Shown.{shown}
use Rattle.hurd_core.specs.Users.{home_used}
use Rattle.hurd_core.proofs.RightLaws.{send-does, send-asked, send-nobody, send-unnamed}
use Rattle.hurd_core.proofs.UserLaws.{sent_users, user_counted, user_fits}
use Rattle.hurd_core.proofs.the_core.Core.send.Goals as goal

pub returns-in_err-right : goal.returns-in_err-right
returns-in_err-right g c =
    let p = err_from_is_err_and c.from_residual.result c.from_residual.ensures.1 in
    rw (p.1, p.2, ← c.self.view_is)
    (refl, inl (send-unnamed (shown g.S.Server.meaning c.self.inside.nodes) c.self.inside.ports.state c.args.task.0 c.args.port c.args.to.0 _ (sym c.in_err-right.ensures)))

pub returns-in_err-has_task : goal.returns-in_err-has_task
returns-in_err-has_task g c =
    let p = err_from_is_err_and c.from_residual-in_err-has_task.result c.from_residual-in_err-has_task.ensures.1 in
    rw (p.1, p.2, ← c.self.view_is)
    (refl, inl (send-nobody (shown g.S.Server.meaning c.self.inside.nodes) c.self.inside.ports.state c.args.task.0 c.args.port c.args.to.0 _ _ (sym c.in_ok-right.ensures) (sym c.in_err-has_task.ensures)))

pub returns-in_err-reserve : goal.returns-in_err-reserve
returns-in_err-reserve g c =
    let p = err_from_is_err_and c.from_residual-in_err-reserve.result c.from_residual-in_err-reserve.ensures.1 in
    rw (p.1, p.2, ← c.self.view_is)
    (refl, inr (refl, ap is_ok (send-asked (shown g.S.Server.meaning c.self.inside.nodes) c.self.inside.ports.state c.args.task.0 c.args.port c.args.to.0 _ _ (sym c.in_ok-right.ensures) (sym c.in_ok-has_task.ensures))))

pub returns-in_err-send : goal.returns-in_err-send
returns-in_err-send g c =
    let p = err_from_is_err_and c.from_residual-in_err-send.result c.from_residual-in_err-send.ensures.1 in
    rw (p.1, p.2, ← c.self.view_is) (send-does (shown g.S.Server.meaning c.self.inside.nodes) c.self.inside.ports.state c.args.task.0 c.args.port c.args.to.0 _ _ c.in_err-send.ensures.answer)

pub add-requires-clause-fits : goal.add-requires-clause-fits
add-requires-clause-fits g c =
    let N = shown g.S.Server.meaning c.self.inside.nodes in
    let H = c.self.inside.ports.state in
    let sites = c.self.inside.nodes.sites in
    let right = c.in_ok-right.field-0.now in
    rw c.home_used-server.ensures
    (user_fits _ _ sites H.tasks _ (home_used sites right) c.self.invariant c.reserve.ensures.entries
    (λ s. sent_users N H _ c.args.task.0 s c.args.port c.args.to.0 right _ (send-asked N H c.args.task.0 c.args.port c.args.to.0 right _ (sym c.in_ok-right.ensures) (sym c.in_ok-has_task.ensures)) (send-does N H c.args.task.0 c.args.port c.args.to.0 _ _ c.in_ok-send.ensures.answer)) c.rights_are_few.ensures)

pub invariant_of-self-2 : goal.invariant_of-self-2
invariant_of-self-2 g c =
    let N = shown g.S.Server.meaning c.self.inside.nodes in
    let H = c.self.inside.ports.state in
    let sites = c.self.inside.nodes.sites in
    let right = c.in_ok-right.field-0.now in
    user_counted _ _ _ sites H.tasks _ (home_used sites right) c.self.invariant c.reserve.ensures.entries
    (λ s. sent_users N H _ c.args.task.0 s c.args.port c.args.to.0 right _ (send-asked N H c.args.task.0 c.args.port c.args.to.0 right _ (sym c.in_ok-right.ensures) (sym c.in_ok-has_task.ensures)) (send-does N H c.args.task.0 c.args.port c.args.to.0 _ _ c.in_ok-send.ensures.answer)) (rw c.home_used-server.ensures at c.add.ensures)

pub returns : goal.returns
returns g c =
    rw (← c.self.view_is) (send-does (shown g.S.Server.meaning c.self.inside.nodes) c.self.inside.ports.state c.args.task.0 c.args.port c.args.to.0 _ _ c.in_ok-send.ensures.answer)
