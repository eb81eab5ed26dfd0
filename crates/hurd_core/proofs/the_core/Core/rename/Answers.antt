-- The nodes with the entry elsewhere, and what is left of them, are the world with it.
use Rattle.std.proofs.lemmas.Result.{err_from_is_err_and}
use Rattle.hurd_nodes.specs.Shown.{shown}
use Rattle.hurd_core.proofs.EditLaws.{rename-does}
use Rattle.std.proofs.Common.{refl}
use Rattle.hurd_core.proofs.UserLaws.{users_stepped}
use Rattle.hurd_core.proofs.the_core.Core.rename.Goals as goal

pub returns-in_err-rename : goal.returns-in_err-rename
returns-in_err-rename g c =
    let p = err_from_is_err_and c.from_residual.result c.from_residual.ensures.1 in
    rw (p.1, p.2, ← c.self.view_is)
    (rename-does (shown g.S.Server.meaning c.self.inside.nodes) c.self.inside.ports.state c.args.dir c.args.name.now c.args.to c.args.new.now _ (shown g.S.Server.meaning c.rename.new.self) _ c.in_err-rename.ensures.shown refl)

pub returns : goal.returns
returns g c =
    rw (← c.self.view_is)
    (rename-does (shown g.S.Server.meaning c.self.inside.nodes) c.self.inside.ports.state c.args.dir c.args.name.now c.args.to c.args.new.now _ (shown g.S.Server.meaning c.rename.new.self) _ c.in_ok-rename.ensures.shown c.settle.ensures)

pub invariant_of-self : goal.invariant_of-self
invariant_of-self g c =
    let f = g.S.Server.meaning in users_stepped _ _ (shown f c.self.inside.nodes) (shown f c.rename.new.self) _ _ c.self.invariant c.rename.ensures.shown refl

pub invariant_of-self-2 : goal.invariant_of-self-2
invariant_of-self-2 g c =
    let f = g.S.Server.meaning in users_stepped _ _ (shown f c.self.inside.nodes) (shown f c.rename.new.self) _ _ c.self.invariant c.in_ok-rename.ensures.shown refl
