-- The ports with a port more are the world with it, and a user of the node's server is counted.
use Rattle.std.proofs.Common.{refl, sym, inl, inr, ap}
use Rattle.std.specs.Prelude.{is_ok}
use Rattle.hurd_machine.proofs.Common.{Name, home_in, is_one, shown, uses_server, world_from}
use Rattle.std.proofs.lemmas.Result.{err_from_is_err_and}
use Rattle.hurd_core.proofs.CoreLaws.{room-had, room-refused}
use Rattle.hurd_core.proofs.RightLaws.{open-does}
use Rattle.hurd_core.proofs.UserLaws.{inserted_counts, user_counted, user_fits}
use Rattle.hurd_core.proofs.the_core.Core.open.Goals as goal

pub returns-in_err-room : goal.returns-in_err-room
returns-in_err-room g c =
    let p = err_from_is_err_and c.from_residual.result c.from_residual.ensures.1 in
    rw (p.1, p.2, ← c.self.view_is) (refl, inl (room-refused (shown g.S.Server.meaning c.self.inside.nodes) c.self.inside.ports.state c.args.task.0 1 _ (sym c.in_err-room.ensures.room)))

pub returns-in_err-reserve : goal.returns-in_err-reserve
returns-in_err-reserve g c =
    let p = err_from_is_err_and c.from_residual-in_err-reserve.result c.from_residual-in_err-reserve.ensures.1 in
    rw (p.1, p.2, ← c.self.view_is) (refl, inr (refl, ap is_ok (room-had (shown g.S.Server.meaning c.self.inside.nodes) c.self.inside.ports.state c.args.task.0 1 _ (sym c.in_ok-room.ensures.room)).2))

pub returns-in_err-port : goal.returns-in_err-port
returns-in_err-port g c =
    let p = err_from_is_err_and c.from_residual-in_err-port.result c.from_residual-in_err-port.ensures.1 in
    let N = shown g.S.Server.meaning c.self.inside.nodes in
    let H = c.self.inside.ports.state in
    let short = c.in_err-port.ensures.err in
    rw (p.1, p.2, ← c.self.view_is) (ap (world_from N) short.1, inr (short.0, ap is_ok (room-had N H c.args.task.0 1 _ (sym c.in_ok-room.ensures.room)).2))

pub add-requires-clause-fits : goal.add-requires-clause-fits
add-requires-clause-fits g c =
    let N = shown g.S.Server.meaning c.self.inside.nodes in
    let H = c.self.inside.ports.state in
    let sites = c.self.inside.nodes.sites in
    let more = λ (s : Name). inserted_counts N H _ c.args.task.0 (uses_server sites s) c.args.node c.args.ids c.args.parents c.args.modes _ (is_one s (home_in sites c.args.node)) (λ x. refl) (open-does N H c.args.task.0 c.args.node c.args.ids c.args.parents c.args.modes _ _ c.in_ok-port.ensures.ok) in
    rw c.home.ensures (user_fits _ _ sites H.tasks _ (home_in sites c.args.node) c.self.invariant c.reserve.ensures.entries more c.rights_are_few.ensures)

pub invariant_of-self-2 : goal.invariant_of-self-2
invariant_of-self-2 g c =
    let N = shown g.S.Server.meaning c.self.inside.nodes in
    let H = c.self.inside.ports.state in
    let sites = c.self.inside.nodes.sites in
    let more = λ (s : Name). inserted_counts N H _ c.args.task.0 (uses_server sites s) c.args.node c.args.ids c.args.parents c.args.modes _ (is_one s (home_in sites c.args.node)) (λ x. refl) (open-does N H c.args.task.0 c.args.node c.args.ids c.args.parents c.args.modes _ _ c.in_ok-port.ensures.ok) in
    user_counted _ _ _ sites H.tasks _ (home_in sites c.args.node) c.self.invariant c.reserve.ensures.entries more (rw c.home.ensures at c.add.ensures)

pub returns : goal.returns
returns g c =
    rw (← c.self.view_is) (open-does (shown g.S.Server.meaning c.self.inside.nodes) c.self.inside.ports.state c.args.task.0 c.args.node c.args.ids c.args.parents c.args.modes _ _ c.in_ok-port.ensures.ok)
