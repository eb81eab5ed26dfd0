-- The ports with the port more are the world with it, and so are the users of its node's server.
use Rattle.std.proofs.Common.{refl, sym, inl, inr, ap}
use Rattle.std.specs.Prelude.{is_ok}
use Rattle.std.proofs.lemmas.Result.{err_from_is_err_and}
use Rattle.hurd_machine.proofs.Common.{shown, world_from}
use Rattle.hurd_core.specs.Users.{home_used}
use Rattle.hurd_core.proofs.CoreLaws.{room-had, room-refused}
use Rattle.hurd_core.proofs.RightLaws.{share-does}
use Rattle.hurd_core.proofs.UserLaws.{shared_users, user_counted, user_fits}
use Rattle.hurd_core.proofs.the_core.Core.share.Goals as goal

pub returns-in_err-room : goal.returns-in_err-room
returns-in_err-room g c =
    let p = err_from_is_err_and c.from_residual.result c.from_residual.ensures.1 in
    rw (p.1, p.2, ← c.self.view_is) (refl, inl (room-refused (shown g.S.Server.meaning c.self.inside.nodes) c.self.inside.ports.state c.args.task.0 0 _ (sym c.in_err-room.ensures.room)))

pub returns-in_err-reserve : goal.returns-in_err-reserve
returns-in_err-reserve g c =
    let p = err_from_is_err_and c.from_residual-in_err-reserve.result c.from_residual-in_err-reserve.ensures.1 in
    rw (p.1, p.2, ← c.self.view_is) (refl, inr (refl, ap is_ok (room-had (shown g.S.Server.meaning c.self.inside.nodes) c.self.inside.ports.state c.args.task.0 0 _ (sym c.in_ok-room.ensures.room)).2))

pub returns-in_err-number : goal.returns-in_err-number
returns-in_err-number g c =
    let p = err_from_is_err_and c.from_residual-in_err-number.result c.from_residual-in_err-number.ensures.1 in
    let N = shown g.S.Server.meaning c.self.inside.nodes in
    let H = c.self.inside.ports.state in
    let short = c.in_err-number.ensures.err in
    rw (p.1, p.2, ← c.self.view_is) (ap (world_from N) short.1, inr (short.0, ap is_ok (room-had N H c.args.task.0 0 _ (sym c.in_ok-room.ensures.room)).2))

pub add-requires-clause-fits : goal.add-requires-clause-fits
add-requires-clause-fits g c =
    let N = shown g.S.Server.meaning c.self.inside.nodes in
    let H = c.self.inside.ports.state in
    let sites = c.self.inside.nodes.sites in
    rw c.home_used-server.ensures
    (user_fits _ _ sites H.tasks _ (home_used sites c.args.right) c.self.invariant c.reserve.ensures.entries (λ s. shared_users N H _ c.args.task.0 s c.args.right _ (share-does N H c.args.task.0 c.args.right _ _ c.in_ok-number.ensures.ok)) c.rights_are_few.ensures)

pub invariant_of-self-2 : goal.invariant_of-self-2
invariant_of-self-2 g c =
    let N = shown g.S.Server.meaning c.self.inside.nodes in
    let H = c.self.inside.ports.state in
    let sites = c.self.inside.nodes.sites in
    user_counted _ _ _ sites H.tasks _ (home_used sites c.args.right) c.self.invariant c.reserve.ensures.entries (λ s. shared_users N H _ c.args.task.0 s c.args.right _ (share-does N H c.args.task.0 c.args.right _ _ c.in_ok-number.ensures.ok))
    (rw c.home_used-server.ensures at c.add.ensures)

pub returns : goal.returns
returns g c = rw (← c.self.view_is) (share-does (shown g.S.Server.meaning c.self.inside.nodes) c.self.inside.ports.state c.args.task.0 c.args.right _ _ c.in_ok-number.ensures.ok)
