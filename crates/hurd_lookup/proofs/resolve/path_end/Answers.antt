-- Look by look, up to the end.
use Rattle.std.proofs.Common.{◌∙◌, inl, inr, sym}
use Rattle.std.proofs.lemmas.Result.{err_from_is_err_and}
use Rattle.hurd_core.specs.Core.{world_of}
use Rattle.hurd_lookup.specs.Legs.{leg_of}
use Rattle.hurd_lookup.proofs.LegLaws.{legs_one}
use Rattle.hurd_lookup.proofs.resolve.path_end.Goals as goal

pub returns-in_err-end-clause-found : goal.returns-in_err-end-clause-found
returns-in_err-end-clause-found g c =
    let w = world_of g.S.Server.meaning c.args.core.now in
    let one = legs_one c.loop-left.left w c.args.ids.now (leg_of c.loop-left.leg) c.loop-left-test.true in
    let p = err_from_is_err_and c.from_residual-in_err-end.result c.from_residual-in_err-end.ensures.1 in
    rw (p.1, p.2) (elim c.in_err-end.ensures [ inl refused ↦ inl (sym c.loop-left.invariant ∙ one ∙ refused _) | inr lacks ↦ inr (lacks, tt) ])

pub loop-left-preserved : goal.loop-left-preserved
loop-left-preserved g c =
    let w = world_of g.S.Server.meaning c.args.core.now in
    let one = legs_one c.loop-left.left w c.args.ids.now (leg_of c.loop-left.leg) c.loop-left-test.true in
    let goes = rw c.in-Goes.is at c.in_ok-end.ensures in
    sym (goes _) ∙ sym one ∙ c.loop-left.invariant

pub returns-in-Ends-clause-found : goal.returns-in-Ends-clause-found
returns-in-Ends-clause-found g c =
    let w = world_of g.S.Server.meaning c.args.core.now in
    let one = legs_one c.loop-left.left w c.args.ids.now (leg_of c.loop-left.leg) c.loop-left-test.true in
    let ends = rw c.in-Ends.is at c.in_ok-end.ensures in
    sym c.loop-left.invariant ∙ one ∙ ends.0 _

pub returns-in-Ends-clause-starts : goal.returns-in-Ends-clause-starts
returns-in-Ends-clause-starts g c = let ends = rw c.in-Ends.is at c.in_ok-end.ensures in ends.1
