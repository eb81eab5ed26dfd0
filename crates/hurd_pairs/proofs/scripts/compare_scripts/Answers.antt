use Rattle.std.proofs.Common.{ap}
use Rattle.std.proofs.lemmas.Result.{err_from_is_err_and}
use Rattle.hurd_terminal.specs.declared.fault.Fault.TheVariants.{Memory}
use Rattle.hurd_pairs.proofs.ScriptLaws.{fault_prints, first_faulty, is_fit, no_pair, second_faulty, told_fault, told_prints, write_failed}
use Rattle.hurd_pairs.proofs.scripts.compare_scripts.Goals as goal

pub returns-in-Err-clause-adds : goal.returns-in-Err-clause-adds
returns-in-Err-clause-adds g c = first_faulty c.args.word.now c.args.one.now c.args.two.now _ c.in-Err.fault (rw c.requires at c.in-Err.ensures.err)

pub returns-in-Err-fit-clause-adds : goal.returns-in-Err-fit-clause-adds
returns-in-Err-fit-clause-adds g c =
    let fit = rw c.requires at c.in-Ok.ensures.ok in
    second_faulty c.args.word.now c.args.one.now c.args.two.now _ c.in-Err-fit.fault (is_fit _ _ _ c.in-Ok.fit.1 fit.0 fit.1) (rw c.requires at c.in-Err-fit.ensures.err)

pub returns-in_err-why-clause-adds : goal.returns-in_err-why-clause-adds
returns-in_err-why-clause-adds g c =
    let p = err_from_is_err_and c.from_residual.result c.from_residual.ensures.1 in
    rw (p.1, p.2) (first_faulty c.args.word.now c.args.one.now c.args.two.now _ Memory tt)

pub returns-in-Some-clause-adds : goal.returns-in-Some-clause-adds
returns-in-Some-clause-adds g c =
    let fit = rw c.requires at c.in-Ok.ensures.ok in
    let other = rw c.requires at c.in-Ok-fit.ensures.ok in
    no_pair c.args.word.now c.args.one.now c.args.two.now _ c.in-Some.why c.in-Ok.fit.1 (is_fit _ _ _ c.in-Ok.fit.1 fit.0 fit.1) (is_fit _ _ _ c.in-Ok-fit.fit.1 other.0 other.1) fit.1 (rw c.in-Some.is at c.in_ok-why.ensures)

pub returns-in-Ok-compare_fit-clause-adds : goal.returns-in-Ok-compare_fit-clause-adds
returns-in-Ok-compare_fit-clause-adds g c =
    let fit = rw c.requires at c.in-Ok.ensures.ok in
    let other = rw c.requires at c.in-Ok-fit.ensures.ok in
    let pair = rw c.in_default.is at c.in_ok-why.ensures in
    let told = rw (c.in-Ok-compare_fit.is, c.deref_mut.ensures.value, c.deref_mut-2.ensures.value) at c.compare_fit.ensures in
    told_prints c.args.word.now c.args.one.now c.args.two.now _ _ c.in-Ok.fit.1 c.in-Ok-fit.fit.1 fit.0 other.0 fit.1 other.1 pair c.compare_fit.new.output _ _ c.in-Ok-compare_fit.verdict told

pub returns-clause-adds : goal.returns-clause-adds
returns-clause-adds g c =
    let fit = rw c.requires at c.in-Ok.ensures.ok in
    let other = rw c.requires at c.in-Ok-fit.ensures.ok in
    let pair = rw c.in_default.is at c.in_ok-why.ensures in
    let told = rw (c.in-Err-compare_fit.is, c.deref_mut.ensures.value, c.deref_mut-2.ensures.value) at c.compare_fit.ensures in
    fault_prints c.args.word.now c.args.one.now c.args.two.now _ _ c.in-Ok.fit.1 c.in-Ok-fit.fit.1 fit.0 other.0 fit.1 other.1 pair c.compare_fit.new.output _ _ c.in-Err-compare_fit.fault told

pub returns-clause-write : goal.returns-clause-write
returns-clause-write g c = λ is.
    let told = rw c.in-Err-compare_fit.is at c.compare_fit.ensures in
    write_failed _ _ _ _ _ c.compare_fit.new.output _ _ c.in-Err-compare_fit.fault told (ap told_fault is)
