use Rattle.std.proofs.Common.{◌≡◌, ◌∙◌, [], ap, arith, refl}
use Rattle.std.proofs.lemmas.List.{nil_from_length}
use Rattle.std.proofs.lemmas.Result.{err_from_is_err_and}
use Rattle.std.specs.Vec.Iter.{into_iter_items}
use Rattle.hurd_sitting.specs.Sittings.{listed}
use Rattle.hurd_sitting.proofs.MadeLaws.{all_made, all_told, next_made, none_made, one_since}
use Rattle.hurd_sitting.proofs.making.make_all.Goals as goal

pub loop-listed-init : goal.loop-listed-init
loop-listed-init c = record {
  can = tt;
  ends = tt;
  made = none_made _ c.args.calls.items _ _ _ c.into_iter-listed-iterator.ensures.into_iter_gives.0;
  same = refl;
}

pub loop-listed-preserved : goal.loop-listed-preserved
loop-listed-preserved c =
    let told = rw c.loop-listed.invariant.same at c.in_ok-make_one.ensures.told in
    record {
      can = tt;
      ends = tt;
      made = next_made _ _ _ _ _ _ _ c.loop-listed.invariant.made _ _ _ _ (ap listed c.in-Some.ensures.steps.0) told c.in_ok-make_one.ensures.world;
      same = c.make_one.ensures.learners ∙ c.loop-listed.invariant.same;
    }

pub returns-clause-told : goal.returns-clause-told
returns-clause-told c =
    let none : into_iter_items c.loop-listed.listed-iterator ≡ [] = nil_from_length _ (omega (arith, c.in-None.ensures.steps.0, c.loop-listed.listed-iterator.rest.ok.0)) in
    all_told _ _ _ _ _ _ _ c.loop-listed.invariant.made (ap listed none)

pub returns-clause-world : goal.returns-clause-world
returns-clause-world c =
    let none : into_iter_items c.loop-listed.listed-iterator ≡ [] = nil_from_length _ (omega (arith, c.in-None.ensures.steps.0, c.loop-listed.listed-iterator.rest.ok.0)) in
    all_made _ _ _ _ _ _ _ c.loop-listed.invariant.made (ap listed none)

pub returns-in_err-make_one-clause-err : goal.returns-in_err-make_one-clause-err
returns-in_err-make_one-clause-err c =
    let p = err_from_is_err_and c.from_residual.result c.from_residual.ensures.1 in
    let lost = c.in_err-make_one.ensures.err in
    rw (p.1, lost.0) (one_since _ _ _ _ _ _ _ c.loop-listed.invariant.made _ _ _ (ap listed c.in-Some.ensures.steps.0) lost.1)
