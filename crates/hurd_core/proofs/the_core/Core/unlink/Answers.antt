-- The nodes without the entry, and what is left of them, are the world without it.
use Rattle.std.proofs.lemmas.Result.{err_from_is_err_and}
use Rattle.hurd_machine.proofs.Common.{Errno, NodeState, shown}
use Rattle.hurd_core.proofs.EditLaws.{unlink-follows}
use Rattle.std.proofs.Common.{ap, refl}
use Rattle.std.specs.Prelude.{Result}
use Rattle.hurd_core.proofs.UserLaws.{users_still}
use Rattle.hurd_core.proofs.the_core.Core.unlink.Goals as goal

pub returns-in_err-unlink : goal.returns-in_err-unlink
returns-in_err-unlink g c =
    let p = err_from_is_err_and c.from_residual.result c.from_residual.ensures.1 in
    rw (p.1, p.2, ← c.self.view_is) (unlink-follows (shown g.S.Server.meaning c.self.inside.nodes) c.self.inside.ports.state c.args.dir c.args.name.now _ (shown g.S.Server.meaning c.unlink.new.self) _ c.in_err-unlink.ensures.shown refl)

pub returns : goal.returns
returns g c =
    rw (← c.self.view_is)
    (unlink-follows (shown g.S.Server.meaning c.self.inside.nodes) c.self.inside.ports.state c.args.dir c.args.name.now
    _ (shown g.S.Server.meaning c.unlink.new.self) _ c.in_ok-unlink.ensures.shown c.settle.ensures)

pub invariant_of-self : goal.invariant_of-self
invariant_of-self g c = users_still _ _ _ _ _ c.self.invariant (ap (λ (z : Result (Unit {0}) Errno × NodeState). z.1.sites) c.unlink.ensures.shown) (λ s. refl)

pub invariant_of-self-2 : goal.invariant_of-self-2
invariant_of-self-2 g c = users_still _ _ _ _ _ c.self.invariant (ap (λ (z : Result (Unit {0}) Errno × NodeState). z.1.sites) c.in_ok-unlink.ensures.shown) (λ s. refl)
