use Rattle.std.proofs.Common.{None, false, refl}
use Rattle.std.proofs.lemmas.Result.{err_from_is_err_and}
use Rattle.hurd_terminal.proofs.RunLaws.{no_memory}
use Rattle.hurd_dialogue.proofs.Printed.{not_begun_adds}
use Rattle.hurd_teaching.specs.Drawings.{drawing}
use Rattle.hurd_teaching.proofs.PictureLaws.{plain_adds}
use Rattle.hurd_teaching.proofs.drawing.draw_all.Goals as goal

pub returns-in_err-telling-clause-adds : goal.returns-in_err-telling-clause-adds
returns-in_err-telling-clause-adds g c =
    let p = err_from_is_err_and c.from_residual.result c.from_residual.ensures.1 in
    rw (p.1, p.2) (not_begun_adds (drawing g.T.Telling.sort false None) g.T.Telling.sort _ c.args.text.now c.in_err-telling.field-0.0 refl refl c.in_err-telling.ensures.err)

pub returns-in_err-drawn-clause-adds : goal.returns-in_err-drawn-clause-adds
returns-in_err-drawn-clause-adds g c =
    let p = err_from_is_err_and c.from_residual-in_err-drawn.result c.from_residual-in_err-drawn.ensures.1 in
    rw (p.1, p.2) (no_memory (drawing g.T.Telling.sort false None) _ c.args.text.now)

pub returns-clause-adds : goal.returns-clause-adds
returns-clause-adds g c =
    let drawn = rw c.deref_mut.ensures.value at c.in_ok-drawn.ensures in
    plain_adds g.T.Telling.sort c.args.text.now (g.T.Telling.way c.in_ok-telling.telling.value) c.in_ok-telling.ensures.ok c.print.new.self _ _ _ c.print.result _ drawn
    (rw c.as_slice.ensures at c.print.ensures.ok) (rw c.as_slice.ensures at c.print.ensures.err)
