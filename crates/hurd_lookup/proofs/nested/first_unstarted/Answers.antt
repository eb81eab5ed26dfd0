-- Node by node, up to the first that needs no other.
use Rattle.std.proofs.Common.{inl, inr, refl}
use Rattle.std.proofs.lemmas.Result.{err_from_is_err_and}
use Rattle.hurd_core.specs.Core.{world_of}
use Rattle.hurd_machine.proofs.Common.{words_at}
use Rattle.hurd_lookup.specs.Nested.{lent_at, words_aims}
use Rattle.hurd_lookup.proofs.NestedLaws.{first_has, first_here, first_on, needed_has}
use Rattle.hurd_lookup.proofs.nested.first_unstarted.Goals as goal

pub loop-left-init : goal.loop-left-init
loop-left-init g c = (refl, (λ has. has, inl refl))

pub returns-in_err-needed : goal.returns-in_err-needed
returns-in_err-needed g c =
    let w = world_of g.S.Server.meaning c.args.core.now in
    let p = err_from_is_err_and c.from_residual.result c.from_residual.ensures.1 in
    let lacks = c.in_err-needed.ensures in
    rw (p.1, p.2) (inr (lacks.0, first_has w c.args.node c.loop-left.here c.loop-left.invariant.1.1 lacks.1))

pub returns-in-None : goal.returns-in-None
returns-in-None g c =
    let w = world_of g.S.Server.meaning c.args.core.now in
    let none = rw c.in-None.is at c.in_ok-needed.ensures in
    (first_here w c.args.ids.now c.args.node c.loop-left.here c.loop-left.left c.loop-left-test.true c.loop-left.invariant.0 none.0, c.loop-left.invariant.1.0)

pub loop-left-preserved : goal.loop-left-preserved
loop-left-preserved g c =
    let w = world_of g.S.Server.meaning c.args.core.now in
    let next = rw c.in-Some.is at c.in_ok-needed.ensures in
    let has = needed_has w (lent_at w c.args.ids.now c.loop-left.here) (words_aims (words_at w c.loop-left.here)) c.in-Some.other next.0 in (
      first_on w c.args.ids.now c.args.node c.loop-left.here c.loop-left.left c.loop-left-test.true c.loop-left.invariant.0 c.in-Some.other next.0,
      (λ has. next.1, inr (first_has w c.args.node c.loop-left.here c.loop-left.invariant.1.1 has)),
    )
