use Rattle.std.proofs.Common.{Some, refl}
use Rattle.std.proofs.lemmas.Result.{err_from_is_err_and}
use Rattle.hurd_terminal.proofs.RunLaws.{no_memory}
use Rattle.hurd_dialogue.proofs.Printed.{not_begun_adds}
use Rattle.hurd_teaching.specs.Drawings.{drawing}
use Rattle.hurd_teaching.proofs.ProgramLaws.{nobody_adds}
use Rattle.hurd_teaching.proofs.PictureLaws.{marked_adds}
use Rattle.hurd_teaching.proofs.drawing.draw_for.Goals as goal

pub returns-in_err-telling-clause-adds : goal.returns-in_err-telling-clause-adds
returns-in_err-telling-clause-adds g c =
    let p = err_from_is_err_and c.from_residual.result c.from_residual.ensures.1 in
    rw (p.1, p.2) (not_begun_adds (drawing g.T.Telling.sort c.args.can (Some c.args.word.now)) g.T.Telling.sort _ c.args.text.now c.in_err-telling.field-0.0 refl refl c.in_err-telling.ensures.err)

pub returns-in_err-drawn-clause-adds : goal.returns-in_err-drawn-clause-adds
returns-in_err-drawn-clause-adds g c =
    let p = err_from_is_err_and c.from_residual-in_err-drawn.result c.from_residual-in_err-drawn.ensures.1 in
    rw (p.1, p.2) (no_memory (drawing g.T.Telling.sort c.args.can (Some c.args.word.now)) _ c.args.text.now)

pub returns-in_err-learners-clause-adds : goal.returns-in_err-learners-clause-adds
returns-in_err-learners-clause-adds g c =
    let p = err_from_is_err_and c.from_residual-in_err-learners.result c.from_residual-in_err-learners.ensures.1 in
    rw (p.1, p.2) (no_memory (drawing g.T.Telling.sort c.args.can (Some c.args.word.now)) _ c.args.text.now)

pub returns-in_default-clause-adds : goal.returns-in_default-clause-adds
returns-in_default-clause-adds g c =
    let none = rw (c.in_default.is, c.deref.ensures) at c.in_ok-learners.ensures in
    nobody_adds g.T.Telling.sort c.args.text.now c.args.word.now (g.T.Telling.way c.in_ok-telling.telling.value) c.in_ok-telling.ensures.ok (drawing g.T.Telling.sort c.args.can (Some c.args.word.now)) refl refl _ none

pub returns-clause-adds : goal.returns-clause-adds
returns-clause-adds g c =
    let named = rw (c.in-Some.is, c.deref.ensures) at c.in_ok-learners.ensures in
    let drawn = rw c.deref_mut.ensures.value at c.in_ok-drawn.ensures in
    marked_adds g.T.Telling.sort c.args.text.now (g.T.Telling.way c.in_ok-telling.telling.value) c.in_ok-telling.ensures.ok c.args.word.now c.in-Some.learners named c.args.can c.print.new.self _ _ _ c.print.result _ drawn
    (rw c.as_slice.ensures at c.print.ensures.ok) (rw c.as_slice.ensures at c.print.ensures.err)
