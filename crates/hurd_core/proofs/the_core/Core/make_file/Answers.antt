-- Room, leave, memory, the server's making, the port: each refusal in its place, and then the machine's making.
use Rattle.std.proofs.Common.{Bool, ◌≡◌, true, refl, sym, inl, ap, ap₂, arith}
use Rattle.hurd_creds.proofs.NameLaws.{same_name-itself}
use Rattle.hurd_machine.proofs.Common.{File, NodeState, Right, count_rights, home_in, is_one, shown, uses_node, uses_server, world_from}
use Rattle.hurd_core.proofs.RightLaws.{open-does}
use Rattle.hurd_machine.proofs.Tasks.{count_named}
use Rattle.hurd_core.proofs.UserLaws.{inserted_counts, rehoused, unhoused_fits, users_still}
use Rattle.std.proofs.lemmas.Option.{slice_get_within}
use Rattle.std.proofs.lemmas.Result.{err_from_is_err_and}
use Rattle.hurd_core.specs.ToMake.{new_node_of}
use Rattle.hurd_core.proofs.MakingLaws.{no-room, not-made, makes, room-left, make-lacks, made-apart, lacks-memory, file-made}
use Rattle.hurd_core.proofs.the_core.Core.make_file.Goals as goal

pub returns-in_err-room : goal.returns-in_err-room
returns-in_err-room g c =
    let N = shown g.S.Server.meaning c.self.inside.nodes in
    let p = err_from_is_err_and c.from_residual.result c.from_residual.ensures.1 in
    rw (p.1, p.2, ← c.self.view_is) (refl, inl (no-room N c.self.inside.ports.state c.args.task.0 (new_node_of c.args.file) _ (sym c.in_err-room.ensures.room)))

pub returns-in_err-can_make : goal.returns-in_err-can_make
returns-in_err-can_make g c =
    let N = shown g.S.Server.meaning c.self.inside.nodes in
    let p = err_from_is_err_and c.from_residual-in_err-can_make.result c.from_residual-in_err-can_make.ensures.1 in
    rw (p.1, p.2, ← c.self.view_is)
    (refl, inl (not-made N c.self.inside.ports.state c.args.task.0 (new_node_of c.args.file) _ (sym c.in_ok-room.ensures.room) (sym c.in_err-can_make.ensures)))

pub reserve-requires : goal.reserve-requires
reserve-requires g c =
    let m = makes (shown g.S.Server.meaning c.self.inside.nodes) c.self.inside.ports.state c.args.task.0 (new_node_of c.args.file) (sym c.in_ok-room.ensures.room) (sym c.in_ok-can_make.ensures) in
    slice_get_within _ _ _ m.there

pub returns-in_err-reserve : goal.returns-in_err-reserve
returns-in_err-reserve g c =
    let N = shown g.S.Server.meaning c.self.inside.nodes in
    let H = c.self.inside.ports.state in
    let f = new_node_of c.args.file in
    let m = makes N H c.args.task.0 f (sym c.in_ok-room.ensures.room) (sym c.in_ok-can_make.ensures) in
    let p = err_from_is_err_and c.from_residual-in_err-reserve.result c.from_residual-in_err-reserve.ensures.1 in
    rw (p.1, p.2, ← c.self.view_is)
    (lacks-memory N H c.args.task.0 f m _ _ (ap (world_from N) c.in_err-reserve.ensures.kept) c.in_err-reserve.ensures.err c.args.ids c.args.parents c.args.modes)

pub returns-in_err-make : goal.returns-in_err-make
returns-in_err-make g c =
    let N = shown g.S.Server.meaning c.self.inside.nodes in
    let H = c.self.inside.ports.state in
    let f = new_node_of c.args.file in
    let may = sym c.in_ok-can_make.ensures in
    let m = makes N H c.args.task.0 f (sym c.in_ok-room.ensures.room) may in
    let l = make-lacks N H c.args.task.0 f File c.in-Some.name c.node.result c.in_err-make.field-0.0 (shown g.S.Server.meaning c.make.new.self) may c.node.ensures c.in_err-make.ensures.shown in
    let p = err_from_is_err_and c.from_residual-in_err-make.result c.from_residual-in_err-make.ensures.1 in
    rw (p.1, p.2, ← c.self.view_is) (lacks-memory N H c.args.task.0 f m _ _ (ap₂ world_from l.1 c.in_ok-reserve.ensures.kept) l.0 c.args.ids c.args.parents c.args.modes)

pub fill-port-requires-clause-room : goal.fill-port-requires-clause-room
fill-port-requires-clause-room g c =
    let N = shown g.S.Server.meaning c.self.inside.nodes in
    let H = c.self.inside.ports.state in
    let f = new_node_of c.args.file in
    let m = makes N H c.args.task.0 f (sym c.in_ok-room.ensures.room) (sym c.in_ok-can_make.ensures) in
    rw (c.take_name.ensures.named, c.in_ok-reserve.ensures.kept) (room-left N H c.args.task.0 f m.task m.there m.free)

pub returns : goal.returns
returns g c =
    let N = shown g.S.Server.meaning c.self.inside.nodes in
    rw (← c.self.view_is)
    (file-made N c.self.inside.ports.state c.args.task.0 (new_node_of c.args.file) c.args.ids c.args.parents c.args.modes c.reserve.new.self.state c.take_name.new.self.state c.fill-port.new.self.state (shown g.S.Server.meaning c.make.new.self) c.in-Some.name c.node.result c.fill-port.result (sym c.in_ok-room.ensures.room) (sym c.in_ok-can_make.ensures) c.in_ok-reserve.ensures.kept c.in-Some.ensures c.node.ensures c.in_ok-make.ensures.shown c.take_name.ensures.named c.fill-port.ensures.answer)

pub returns-in_err-reserve-2 : goal.returns-in_err-reserve-2
returns-in_err-reserve-2 g c =
    let N = shown g.S.Server.meaning c.self.inside.nodes in
    let H = c.self.inside.ports.state in
    let f = new_node_of c.args.file in
    let m = makes N H c.args.task.0 f (sym c.in_ok-room.ensures.room) (sym c.in_ok-can_make.ensures) in
    let p = err_from_is_err_and c.from_residual-in_err-reserve-2.result c.from_residual-in_err-reserve-2.ensures.1 in
    rw (p.1, p.2, ← c.self.view_is) (lacks-memory N H c.args.task.0 f m _ _ (ap (world_from N) c.in_ok-reserve.ensures.kept) refl c.args.ids c.args.parents c.args.modes)

pub invariant_of-self-in_err-make : goal.invariant_of-self-in_err-make
invariant_of-self-in_err-make g c =
    let f = g.S.Server.meaning in
    let l = make-lacks (shown f c.self.inside.nodes) c.self.inside.ports.state c.args.task.0 (new_node_of c.args.file) File c.in-Some.name c.node.result c.in_err-make.field-0.0 (shown f c.make.new.self) (sym c.in_ok-can_make.ensures) c.node.ensures c.in_err-make.ensures.shown in
    rw (c.reserve-2.ensures.entries, c.in_ok-reserve.ensures.kept) (users_still _ _ _ _ _ c.self.invariant (ap (λ (M : NodeState). M.sites) l.1) (λ s. refl))

pub rehouse-requires-clause-counted : goal.rehouse-requires-clause-counted
rehouse-requires-clause-counted g c =
    let uses = rw c.in_ok-reserve.ensures.kept at c.of-before.ensures.uses in
    unhoused_fits c.self.inside.nodes.sites c.self.inside.nodes.sites c.in-Some.name (λ m apart. refl) c.self.inside.ports.state.tasks c.self.inside.ports.state.tasks 0 c.of-before.result c.of-before.result c.of-before.ensures.server uses _ _ c.self.invariant c.reserve-2.ensures.entries

pub invariant_of-self-2 : goal.invariant_of-self-2
invariant_of-self-2 g c =
    let f = g.S.Server.meaning in
    let N = shown f c.self.inside.nodes in
    let H = c.self.inside.ports.state in
    let t = c.args.task.0 in
    let name = c.in-Some.name in
    let b = c.make.new.self.sites in
    let others = made-apart N H t (new_node_of c.args.file) File name c.node.result (shown f c.make.new.self) (sym c.in_ok-can_make.ensures) c.node.ensures c.in_ok-make.ensures.shown in
    let named : (T : Right → Bool) → count_rights T c.take_name.new.self.state.tasks ≡ count_rights T H.tasks = rw (c.take_name.ensures.named, c.in_ok-reserve.ensures.kept) (λ T. count_named T t 1 H.tasks) in
    let G = c.take_name.new.self.state in
    let filled = inserted_counts N G c.fill-port.new.self.state t in
    let put = open-does N G t name c.args.ids c.args.parents c.args.modes _ _ c.fill-port.ensures.answer in
    let uses = rw c.in_ok-reserve.ensures.kept at c.of-before.ensures.uses in
    rehoused c.self.inside.nodes.sites b name others H.tasks c.fill-port.new.self.state.tasks 1 c.of-before.result c.of-now.result c.of-before.ensures.server uses c.of-now.ensures.server c.of-now.ensures.uses
    (omega (arith, named (uses_node name), filled (uses_node name) name c.args.ids c.args.parents c.args.modes _ true (λ x. same_name-itself name) put))
    (λ s. omega (arith, named (uses_server b s), filled (uses_server b s) name c.args.ids c.args.parents c.args.modes _ (is_one s (home_in b name)) (λ x. refl) put)) _ _ _ c.self.invariant c.reserve-2.ensures.entries c.rehouse.ensures
