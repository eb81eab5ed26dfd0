use Rattle.std.proofs.Common.{refl}
use Rattle.std.proofs.lemmas.Result.{err_from_is_err_and}
use Rattle.hurd_terminal.proofs.RunLaws.{no_memory}
use Rattle.hurd_dialogue.proofs.Printed.{not_begun_adds}
use Rattle.hurd_teaching.proofs.ProgramLaws.{nobody_adds}
use Rattle.hurd_dialogue.specs.Parts.{world_behind}
use Rattle.hurd_can.specs.Dated.{worlds_from}
use Rattle.hurd_can.specs.Programs.{IsCould, asked, could}
use Rattle.hurd_can.proofs.EndLaws.{could_adds}
use Rattle.hurd_can.proofs.coulds.could_text.Goals as goal

pub returns-in_err-telling-clause-adds : goal.returns-in_err-telling-clause-adds
returns-in_err-telling-clause-adds g c =
    let p = err_from_is_err_and c.from_residual.result c.from_residual.ensures.1 in
    rw (p.1, p.2) (not_begun_adds (could g.T.Telling.sort c.args.every c.args.how c.args.word.now) g.T.Telling.sort _ c.args.text.now c.in_err-telling.field-0.0 refl refl c.in_err-telling.ensures.err)

pub returns-in_err-learners-clause-adds : goal.returns-in_err-learners-clause-adds
returns-in_err-learners-clause-adds g c =
    let p = err_from_is_err_and c.from_residual-in_err-learners.result c.from_residual-in_err-learners.ensures.1 in
    rw (p.1, p.2) (no_memory (could g.T.Telling.sort c.args.every c.args.how c.args.word.now) _ c.args.text.now)

pub returns-in_err-again-clause-adds : goal.returns-in_err-again-clause-adds
returns-in_err-again-clause-adds g c =
    let p = err_from_is_err_and c.from_residual-in_err-again.result c.from_residual-in_err-again.ensures.1 in
    rw (p.1, p.2) (not_begun_adds (could g.T.Telling.sort c.args.every c.args.how c.args.word.now) g.T.Telling.sort _ c.args.text.now c.in_err-again.field-0.0 refl refl c.in_err-again.ensures.err)

pub returns-in_err-names-clause-adds : goal.returns-in_err-names-clause-adds
returns-in_err-names-clause-adds g c =
    let p = err_from_is_err_and c.from_residual-in_err-names.result c.from_residual-in_err-names.ensures.1 in
    rw (p.1, p.2) (no_memory (could g.T.Telling.sort c.args.every c.args.how c.args.word.now) _ c.args.text.now)

pub returns-in_err-said-clause-adds : goal.returns-in_err-said-clause-adds
returns-in_err-said-clause-adds g c =
    let p = err_from_is_err_and c.from_residual-in_err-said.result c.from_residual-in_err-said.ensures.1 in
    rw (p.1, p.2) (no_memory (could g.T.Telling.sort c.args.every c.args.how c.args.word.now) _ c.args.text.now)

pub returns-in_default-clause-adds : goal.returns-in_default-clause-adds
returns-in_default-clause-adds g c =
    let none = rw (c.in_default.is, c.deref.ensures) at c.in_ok-learners.ensures in
    nobody_adds g.T.Telling.sort c.args.text.now c.args.word.now (g.T.Telling.way c.in_ok-telling.telling.value) c.in_ok-telling.ensures.ok (could g.T.Telling.sort c.args.every c.args.how c.args.word.now) refl refl _ none

pub returns-clause-adds : goal.returns-clause-adds
returns-clause-adds g c =
    let named = rw (c.in-Some.is, c.deref.ensures) at c.in_ok-learners.ensures in
    let here : IsCould (asked g.T.Telling.sort c.args.how c.args.text.now c.as_slice.result.now c.in-Some.learners) c.args.every
    (worlds_from (g.T.Telling.way c.deref_mut-2.result.now).world (g.T.Telling.way c.deref_mut-2.result.now).left)
    (world_behind (g.T.Telling.way c.deref_mut.result.now).world (g.T.Telling.way c.deref_mut.result.now).left) c.in_ok-said.said =
    c.in_ok-said.ensures in
    let found = rw (c.deref_mut.ensures.value, c.deref_mut-2.ensures.value, c.as_slice.ensures.value, c.in_ok-names.ensures, c.names.ensures, c.deref-2.ensures) at here in
    could_adds g.T.Telling.sort c.args.every c.args.how c.args.text.now c.args.word.now (g.T.Telling.way c.in_ok-telling.telling.value) (g.T.Telling.way c.in_ok-again.again.value) c.in_ok-telling.ensures.ok c.in_ok-again.ensures.ok
    c.in-Some.learners named c.print.new.self _ _ _ c.print.result _ found (rw c.as_slice-2.ensures at c.print.ensures.ok) (rw c.as_slice-2.ensures at c.print.ensures.err)
