-- Each name leads on, to an end, or is refused; and what is left gets shorter.
use Rattle.std.proofs.Common.{◌∙◌, ap, sym}
use Rattle.std.proofs.lemmas.Result.{err_from_is_err_and}
use Rattle.hurd_core.specs.Core.{world_of}
use Rattle.hurd_lookup.specs.Path.{names_in}
use Rattle.hurd_lookup.specs.Ends.{authority_of}
use Rattle.hurd_lookup.specs.Lookup.{walk}
use Rattle.hurd_lookup.proofs.walk.walk.Goals as goal

pub returns-in_err-outcome : goal.returns-in_err-outcome
returns-in_err-outcome g c =
    let w = world_of g.S.Server.meaning c.args.core.now in
    let q = authority_of c.args.authority in
    let p = err_from_is_err_and c.from_residual.result c.from_residual.ensures.1 in
    rw (p.1, p.2)
    (sym c.loop-name.invariant.0
    ∙ ap (walk w q c.args.request c.loop-name.here.node) c.in-Some.ensures.0
    ∙ c.in_err-outcome.ensures (λ n. walk w q c.args.request n (names_in c.in-Some.after.now)))

pub returns-in-Some-2 : goal.returns-in-Some-2
returns-in-Some-2 g c =
    let w = world_of g.S.Server.meaning c.args.core.now in
    let q = authority_of c.args.authority in
    let goes = rw c.in-Some-2.is at c.in_ok-outcome.ensures in (
      sym c.loop-name.invariant.0
          ∙ ap (walk w q c.args.request c.loop-name.here.node) c.in-Some.ensures.0
          ∙ goes.0 (λ n. walk w q c.args.request n (names_in c.in-Some.after.now)),
      goes.1,
    )

pub loop-name-preserved : goal.loop-name-preserved
loop-name-preserved g c =
    let w = world_of g.S.Server.meaning c.args.core.now in
    let q = authority_of c.args.authority in
    let goes = rw c.in_default-2.is at c.in_ok-outcome.ensures in (
      sym (goes.0 (λ n. walk w q c.args.request n (names_in c.in-Some.after.now)))
          ∙ sym (ap (walk w q c.args.request c.loop-name.here.node) c.in-Some.ensures.0)
          ∙ c.loop-name.invariant.0,
      goes.1,
    )

pub returns : goal.returns
returns g c =
    let w = world_of g.S.Server.meaning c.args.core.now in
    let q = authority_of c.args.authority in
    rw (sym c.loop-name.invariant.0 ∙ ap (walk w q c.args.request c.loop-name.here.node) c.in_default.ensures) c.arrive.ensures
