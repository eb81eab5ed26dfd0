-- Two names, the nodes with the server, and what is left of them: each refusal in its place, and then the machine's attaching.
use Rattle.std.proofs.Common.{◌≡◌, ◌∙◌, Bool, Ok, refl, sym, inl, ap}
use Rattle.std.proofs.lemmas.Result.{err_from_is_err_and}
use Rattle.hurd_machine.proofs.Common.{NodeState, Right, begun_info, begun_root, count_rights, name_step, naming_of, shown, uses_server}
use Rattle.hurd_machine.proofs.Tasks.{count_named}
use Rattle.hurd_core.proofs.UserLaws.{unhoused_fits, users_reseated, users_still}
use Rattle.hurd_core.proofs.CoreLaws.{naming-refused}
use Rattle.hurd_core.proofs.ServerLaws.{attach-lacks, attach-done, name-left, seated}
use Rattle.hurd_core.proofs.the_core.Core.attach.Goals as goal

pub returns-in-Err-clause-does : goal.returns-in-Err-clause-does
returns-in-Err-clause-does g c =
    rw (← c.self.view_is) (refl, inl (naming-refused (shown g.S.Server.meaning c.self.inside.nodes) c.self.inside.ports.state c.args.task.0 2 c.in-Err.refused (sym c.naming.ensures ∙ c.in-Err.is)))

pub returns-in_err-attach-clause-does : goal.returns-in_err-attach-clause-does
returns-in_err-attach-clause-does g c =
    let f = g.S.Server.meaning in
    let p = err_from_is_err_and c.from_residual.result c.from_residual.ensures.1 in
    rw (p.1, p.2, ← c.self.view_is, c.in_err-attach.ensures.err, c.in_err-attach.ensures.kept)
    (attach-lacks (shown f c.self.inside.nodes) c.self.inside.ports.state c.args.task.0 (sym c.naming.ensures ∙ c.in_default.is) c.args.place c.args.ids c.args.targets.items (f c.args.server))

pub take_name-requires-2 : goal.take_name-requires-2
take_name-requires-2 g c =
    rw c.take_name.ensures.named (name-left (shown g.S.Server.meaning c.self.inside.nodes) c.self.inside.ports.state c.args.task.0 (sym c.naming.ensures ∙ c.in_default.is))

pub returns-clause-does : goal.returns-clause-does
returns-clause-does g c =
    let f = g.S.Server.meaning in
    let N = shown f c.self.inside.nodes in
    let H = c.self.inside.ports.state in
    let t = c.args.task.0 in
    let p = c.args.place in
    let m = f c.args.server in
    let free : naming_of H t 2 ≡ Ok tt = sym c.naming.ensures ∙ c.in_default.is in
    rw (← c.self.view_is)
    (attach-done N H t free p c.args.ids c.args.targets.items m c.in-Some.name c.in-Some.ensures (shown f c.attach.new.self) _ (c.in_ok-attach.ensures.shown ∙ ap (seated N H t p c.args.ids c.args.targets.items m) c.place-at.ensures)
    (rw (c.start_over.ensures.nodes, c.start_over.ensures.ports, c.take_name-2.ensures.named, c.take_name.ensures.named) at c.settle.ensures))

pub returns-in_default-reserve-clause-does : goal.returns-in_default-reserve-clause-does
returns-in_default-reserve-clause-does g c =
    let f = g.S.Server.meaning in
    rw (← c.self.view_is) (attach-lacks (shown f c.self.inside.nodes) c.self.inside.ports.state c.args.task.0 (sym c.naming.ensures ∙ c.in_default.is) c.args.place c.args.ids c.args.targets.items (f c.args.server))

pub invariant_of-self-in_err-attach : goal.invariant_of-self-in_err-attach
invariant_of-self-in_err-attach g c = rw (c.reserve.ensures.entries, c.in_err-attach.ensures.kept) c.self.invariant

pub reseat-requires-clause-counted : goal.reseat-requires-clause-counted
reseat-requires-clause-counted g c =
    unhoused_fits c.self.inside.nodes.sites c.self.inside.nodes.sites c.place-at.result.root (λ m apart. refl) c.self.inside.ports.state.tasks c.self.inside.ports.state.tasks 0 c.of-root.result c.of-root.result c.of-root.ensures.server c.of-root.ensures.uses _ _ c.self.invariant c.reserve.ensures.entries

pub invariant_of-self-2 : goal.invariant_of-self-2
invariant_of-self-2 g c =
    let f = g.S.Server.meaning in
    let N = shown f c.self.inside.nodes in
    let H = c.self.inside.ports.state in
    let t = c.args.task.0 in
    let at = c.place-at.result in
    let m = f c.args.server in
    let named : (T : Right → Bool) → count_rights T c.take_name-2.new.self.state.tasks ≡ count_rights T H.tasks = rw (c.take_name-2.ensures.named, c.take_name.ensures.named) (λ T. count_named T t 1 (name_step t H).tasks ∙ count_named T t 1 H.tasks) in
    let counts = rw (c.of-root.ensures.server, c.of-root.ensures.uses, c.reserve.ensures.entries) at c.reseat.ensures in
    users_still _ _ _ H.tasks _
    (λ s. counts s ∙ users_reseated N H.tasks s c.args.place.instead at.name at.seat (begun_info m at.root c.args.ids c.args.targets.items) (begun_root m at.owner at.group at.mode) _ (c.self.invariant s))
    (ap (λ (M : NodeState). M.sites) c.in_ok-attach.ensures.shown) (λ s. named (uses_server _ s))
