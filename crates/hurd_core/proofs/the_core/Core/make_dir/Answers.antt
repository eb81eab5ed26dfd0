-- Leave, a name, the server's making: each refusal in its place, and then the machine's making.
use Rattle.std.proofs.Common.{◌≡◌, Bool, refl, sym, ap, inl, inr, arith}
use Rattle.std.specs.Prelude.{is_ok}
use Rattle.hurd_machine.proofs.Common.{Dir, NodeState, Right, count_rights, home_in, is_one, shown, uses_node, uses_server}
use Rattle.std.proofs.lemmas.Result.{err_from_is_err_and}
use Rattle.hurd_core.specs.ToMake.{new_node_of}
use Rattle.hurd_core.proofs.DirLaws.{dir-refused, dir-unnamed, dir-lacks, dir-made, makes-dir}
use Rattle.hurd_core.proofs.MakingLaws.{make-lacks, made-apart}
use Rattle.hurd_machine.proofs.Tasks.{count_named}
use Rattle.hurd_core.proofs.UserLaws.{rehoused, unhoused_fits, users_still, zero_if}
use Rattle.hurd_core.proofs.the_core.Core.make_dir.Goals as goal

pub returns-in_err-can_make : goal.returns-in_err-can_make
returns-in_err-can_make g c =
    let N = shown g.S.Server.meaning c.self.inside.nodes in
    let p = err_from_is_err_and c.from_residual.result c.from_residual.ensures.1 in
    rw (p.1, p.2, ← c.self.view_is) (refl, inl (dir-refused N c.self.inside.ports.state c.args.task.0 (new_node_of c.args.dir) _ (sym c.in_err-can_make.ensures)))

pub returns-in_err-naming : goal.returns-in_err-naming
returns-in_err-naming g c =
    let N = shown g.S.Server.meaning c.self.inside.nodes in
    let p = err_from_is_err_and c.from_residual-in_err-naming.result c.from_residual-in_err-naming.ensures.1 in
    rw (p.1, p.2, ← c.self.view_is)
    (refl, inl (dir-unnamed N c.self.inside.ports.state c.args.task.0 (new_node_of c.args.dir) _ (sym c.in_ok-can_make.ensures) (sym c.in_err-naming.ensures)))

pub returns-in_err-make : goal.returns-in_err-make
returns-in_err-make g c =
    let N = shown g.S.Server.meaning c.self.inside.nodes in
    let p = err_from_is_err_and c.from_residual-in_err-make.result c.from_residual-in_err-make.ensures.1 in
    rw (p.1, p.2, ← c.self.view_is)
    (dir-lacks N c.self.inside.ports.state c.args.task.0 (new_node_of c.args.dir) (sym c.in_ok-can_make.ensures) (sym c.in_ok-naming.ensures) c.in-Some.name c.node.result c.node.ensures c.in_err-make.field-0.0 (shown g.S.Server.meaning c.make.new.self) c.in_err-make.ensures.shown)

pub returns : goal.returns
returns g c =
    let N = shown g.S.Server.meaning c.self.inside.nodes in
    rw (← c.self.view_is)
    (dir-made N c.self.inside.ports.state c.args.task.0 (new_node_of c.args.dir) (sym c.in_ok-can_make.ensures) (sym c.in_ok-naming.ensures) c.in-Some.name c.node.result c.node.ensures c.take_name.new.self.state (shown g.S.Server.meaning c.make.new.self) c.in-Some.ensures c.in_ok-make.ensures.shown c.take_name.ensures.named)

pub returns-in_err-reserve : goal.returns-in_err-reserve
returns-in_err-reserve g c =
    let m = makes-dir (shown g.S.Server.meaning c.self.inside.nodes) c.self.inside.ports.state c.args.task.0 (new_node_of c.args.dir) (sym c.in_ok-can_make.ensures) (sym c.in_ok-naming.ensures) in
    let p = err_from_is_err_and c.from_residual-in_err-reserve.result c.from_residual-in_err-reserve.ensures.1 in
    rw (p.1, p.2, ← c.self.view_is) (refl, inr (refl, ap is_ok m.asks))

pub invariant_of-self-in_err-make : goal.invariant_of-self-in_err-make
invariant_of-self-in_err-make g c =
    let f = g.S.Server.meaning in
    let l = make-lacks (shown f c.self.inside.nodes) c.self.inside.ports.state c.args.task.0 (new_node_of c.args.dir) Dir c.in-Some.name c.node.result c.in_err-make.field-0.0 (shown f c.make.new.self) (sym c.in_ok-can_make.ensures) c.node.ensures c.in_err-make.ensures.shown in
    rw c.reserve.ensures.entries (users_still _ _ _ _ _ c.self.invariant (ap (λ (M : NodeState). M.sites) l.1) (λ s. refl))

pub rehouse-requires-clause-counted : goal.rehouse-requires-clause-counted
rehouse-requires-clause-counted g c =
    unhoused_fits c.self.inside.nodes.sites c.self.inside.nodes.sites c.in-Some.name (λ m apart. refl) c.self.inside.ports.state.tasks c.self.inside.ports.state.tasks 0 c.of-before.result c.of-before.result c.of-before.ensures.server c.of-before.ensures.uses _ _ c.self.invariant c.reserve.ensures.entries

pub invariant_of-self-2 : goal.invariant_of-self-2
invariant_of-self-2 g c =
    let f = g.S.Server.meaning in
    let N = shown f c.self.inside.nodes in
    let H = c.self.inside.ports.state in
    let t = c.args.task.0 in
    let name = c.in-Some.name in
    let b = c.make.new.self.sites in
    let others = made-apart N H t (new_node_of c.args.dir) Dir name c.node.result (shown f c.make.new.self) (sym c.in_ok-can_make.ensures) c.node.ensures c.in_ok-make.ensures.shown in
    let named : (T : Right → Bool) → count_rights T c.take_name.new.self.state.tasks ≡ count_rights T H.tasks = rw c.take_name.ensures.named (λ T. count_named T t 1 H.tasks) in
    rehoused c.self.inside.nodes.sites b name others H.tasks c.take_name.new.self.state.tasks 0 c.of-before.result c.of-now.result c.of-before.ensures.server c.of-before.ensures.uses c.of-now.ensures.server c.of-now.ensures.uses
    (omega (arith, named (uses_node name))) (λ s. omega (arith, named (uses_server b s), zero_if (is_one s (home_in b name)))) _ _ _ c.self.invariant c.reserve.ensures.entries c.rehouse.ensures
