-- What waits, then the targets, and then what can be named.
use Rattle.std.proofs.Common.{inl, inr, refl, subst}
use Rattle.std.specs.Prelude.{IsOk, Result}
use Rattle.std.proofs.lemmas.Result.{err_from_is_err_and}
use Rattle.hurd_machine.proofs.Common.{Errno, Header, words_at}
use Rattle.hurd_core.specs.Core.{world_of}
use Rattle.hurd_core.specs.PortNode.{header_with}
use Rattle.hurd_fsys.proofs.StartupLaws.{aims_not, waits_free, waits_full, waits_not}
use Rattle.hurd_fsys.proofs.starting.startup_asked.Goals as goal

pub returns-in_err-attrs : goal.returns-in_err-attrs
returns-in_err-attrs g c =
    let w = world_of g.S.Server.meaning c.args.core.now in
    let m = g.S.Server.meaning c.args.server.now in
    let p = err_from_is_err_and c.from_residual.result c.from_residual.ensures.1 in
    rw (p.1, p.2) (inl (waits_not w c.args.task.0 m c.args.start.now _ c.in_err-attrs.ensures))

pub returns-in_err-targets : goal.returns-in_err-targets
returns-in_err-targets g c =
    let w = world_of g.S.Server.meaning c.args.core.now in
    let m = g.S.Server.meaning c.args.server.now in
    let p = err_from_is_err_and c.from_residual-in_err-targets.result c.from_residual-in_err-targets.ensures.1 in
    let h = header_with (words_at w c.args.start.now.node) c.in_ok-attrs.attrs in
    rw (p.1, p.2) (elim c.in_err-targets.ensures [
      | inl none ↦ inl (aims_not w c.args.task.0 m c.args.start.now h c.in_ok-attrs.ensures _ none)
      | inr lacks ↦ inr (lacks.0, (lacks.1, subst (λ (r : Result Header Errno). IsOk r) c.in_ok-attrs.ensures refl))
    ])

pub returns-in_err-naming : goal.returns-in_err-naming
returns-in_err-naming g c =
    let w = world_of g.S.Server.meaning c.args.core.now in
    let m = g.S.Server.meaning c.args.server.now in
    let p = err_from_is_err_and c.from_residual-in_err-naming.result c.from_residual-in_err-naming.ensures.1 in
    let h = header_with (words_at w c.args.start.now.node) c.in_ok-attrs.attrs in
    rw (p.1, p.2) (inl (waits_full w c.args.task.0 m c.args.start.now h c.in_ok-attrs.ensures c.in_ok-targets.targets.items c.in_ok-targets.ensures _ c.in_err-naming.ensures))

pub returns : goal.returns
returns g c =
    let w = world_of g.S.Server.meaning c.args.core.now in
    let m = g.S.Server.meaning c.args.server.now in
    let h = header_with (words_at w c.args.start.now.node) c.in_ok-attrs.attrs in
    waits_free w c.args.task.0 m c.args.start.now h c.in_ok-attrs.ensures c.in_ok-targets.targets.items c.in_ok-targets.ensures c.in_ok-naming.field-0 c.in_ok-naming.ensures
