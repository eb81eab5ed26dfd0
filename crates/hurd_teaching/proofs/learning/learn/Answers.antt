use Rattle.std.proofs.Common.{◌∙◌, inr, refl}
use Rattle.std.proofs.lemmas.Result.{err_from_is_err_and}
use Rattle.hurd_teaching.proofs.ShownLaws.{front_shown, line_missing, line_not_shown, line_shown}
use Rattle.hurd_teaching.proofs.learning.learn.Goals as goal

pub returns-in_err-tell_all-clause-err : goal.returns-in_err-tell_all-clause-err
returns-in_err-tell_all-clause-err g c =
    let p = err_from_is_err_and c.from_residual.result c.from_residual.ensures.1 in
    let failed = c.in_err-tell_all.ensures.err in
    rw (p.1, p.2) (failed.0, front_shown c.args.most c.args.learners.now _ _ _ _ c.requires.begun _ _ failed.1)

pub returns-in_err-line-clause-err : goal.returns-in_err-line-clause-err
returns-in_err-line-clause-err g c =
    let p = err_from_is_err_and c.from_residual-in_err-line.result c.from_residual-in_err-line.ensures.1 in
    let told = rw c.new-tally.ensures at c.in_ok-tell_all.ensures.ok in
    rw (p.1, p.2) (inr refl, line_missing c.args.most c.args.learners.now _ _ _ _ c.requires.begun _ c.tell_all.new.tally _ told)

pub returns-clause-ok : goal.returns-clause-ok
returns-clause-ok g c =
    let told = rw c.new-tally.ensures at c.in_ok-tell_all.ensures.ok in
    let says = rw (c.as_slice.ensures.value, c.thing.ensures) at c.in_ok-line.ensures in
    line_shown c.args.most c.args.learners.now _ _ _ _ c.requires.begun _ c.tell_all.new.tally _ told c.as_slice-2.result.now (c.as_slice-2.ensures.value ∙ says) _ _ c.print.result c.print.ensures.ok

pub returns-clause-err : goal.returns-clause-err
returns-clause-err g c =
    let told = rw c.new-tally.ensures at c.in_ok-tell_all.ensures.ok in
    let says = rw (c.as_slice.ensures.value, c.thing.ensures) at c.in_ok-line.ensures in
    line_not_shown c.args.most c.args.learners.now _ _ _ _ c.requires.begun _ c.tell_all.new.tally _ told c.as_slice-2.result.now (c.as_slice-2.ensures.value ∙ says) _ c.print.new.self c.print.result c.print.ensures.err
