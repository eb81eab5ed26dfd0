use Rattle.std.proofs.Common.{refl}
use Rattle.std.proofs.lemmas.Result.{err_from_is_err_and}
use Rattle.hurd_terminal.proofs.RunLaws.{no_memory, read_nowhere, write_blamed}
use Rattle.hurd_dialogue.proofs.Printed.{not_begun_adds, not_begun_reads, not_begun_writes}
use Rattle.hurd_teaching.specs.Programs.{learning}
use Rattle.hurd_teaching.proofs.ProgramLaws.{learned_adds, nobody_adds}
use Rattle.hurd_teaching.proofs.learning.learn_text.Goals as goal

pub returns-in_err-telling-clause-adds : goal.returns-in_err-telling-clause-adds
returns-in_err-telling-clause-adds g c =
    let p = err_from_is_err_and c.from_residual.result c.from_residual.ensures.1 in
    rw (p.1, p.2) (not_begun_adds (learning g.T.Telling.sort c.args.most c.args.word.now) g.T.Telling.sort _ c.args.text.now c.in_err-telling.field-0.0 refl refl c.in_err-telling.ensures.err)

pub returns-in_err-telling-clause-read : goal.returns-in_err-telling-clause-read
returns-in_err-telling-clause-read g c =
    let p = err_from_is_err_and c.from_residual.result c.from_residual.ensures.1 in
    rw (p.1, p.2) (not_begun_reads g.T.Telling.sort c.args.text.now _ c.in_err-telling.field-0.0 refl c.in_err-telling.ensures.err)

pub returns-in_err-telling-clause-write : goal.returns-in_err-telling-clause-write
returns-in_err-telling-clause-write g c =
    let p = err_from_is_err_and c.from_residual.result c.from_residual.ensures.1 in
    rw (p.1, p.2) (not_begun_writes g.T.Telling.sort c.args.text.now _ c.in_err-telling.field-0.0 refl c.in_err-telling.ensures.err)

pub returns-in_err-learners-clause-adds : goal.returns-in_err-learners-clause-adds
returns-in_err-learners-clause-adds g c =
    let p = err_from_is_err_and c.from_residual-in_err-learners.result c.from_residual-in_err-learners.ensures.1 in
    rw (p.1, p.2) (no_memory (learning g.T.Telling.sort c.args.most c.args.word.now) _ c.args.text.now)

pub returns-in-Some-clause-adds : goal.returns-in-Some-clause-adds
returns-in-Some-clause-adds g c =
    let named = rw (c.in-Some.is, c.deref.ensures) at c.in_ok-learners.ensures in
    learned_adds g.T.Telling.sort c.args.text.now c.args.word.now (g.T.Telling.way c.in_ok-telling.telling.value) c.in_ok-telling.ensures.ok c.in-Some.learners named c.args.most c.learn.new.output _ _ c.learn.result
    (rw c.deref_mut.ensures.value at c.learn.ensures.ok) (rw c.deref_mut.ensures.value at c.learn.ensures.err)

pub returns-clause-adds : goal.returns-clause-adds
returns-clause-adds g c =
    let none = rw (c.in-None.is, c.deref.ensures) at c.in_ok-learners.ensures in
    nobody_adds g.T.Telling.sort c.args.text.now c.args.word.now (g.T.Telling.way c.in_ok-telling.telling.value) c.in_ok-telling.ensures.ok (learning g.T.Telling.sort c.args.most c.args.word.now) refl refl _ none

pub returns-in-Some-clause-read : goal.returns-in-Some-clause-read
returns-in-Some-clause-read g c = read_nowhere c.learn.new.output _ c.learn.result c.learn.ensures.err

pub returns-in-Some-clause-write : goal.returns-in-Some-clause-write
returns-in-Some-clause-write g c = write_blamed c.learn.new.output _ c.learn.result c.learn.ensures.err
