use Rattle.std.proofs.Common.{refl}
use Rattle.std.proofs.lemmas.Result.{err_from_is_err_and}
use Rattle.hurd_terminal.proofs.RunLaws.{read_nowhere, write_blamed}
use Rattle.hurd_dialogue.specs.Sorts.{running}
use Rattle.hurd_dialogue.proofs.Printed.{begun_adds, not_begun_adds, not_begun_reads, not_begun_writes}
use Rattle.hurd_dialogue.proofs.playing.transcribe.Goals as goal

pub returns-in_err-telling-clause-adds : goal.returns-in_err-telling-clause-adds
returns-in_err-telling-clause-adds g c =
    let p = err_from_is_err_and c.from_residual.result c.from_residual.ensures.1 in
    rw (p.1, p.2) (not_begun_adds (running g.T.Telling.sort) g.T.Telling.sort _ c.args.text.now c.in_err-telling.field-0.0 refl refl c.in_err-telling.ensures.err)

pub returns-in_err-telling-clause-read : goal.returns-in_err-telling-clause-read
returns-in_err-telling-clause-read g c =
    let p = err_from_is_err_and c.from_residual.result c.from_residual.ensures.1 in
    rw (p.1, p.2) (not_begun_reads g.T.Telling.sort c.args.text.now _ c.in_err-telling.field-0.0 refl c.in_err-telling.ensures.err)

pub returns-in_err-telling-clause-write : goal.returns-in_err-telling-clause-write
returns-in_err-telling-clause-write g c =
    let p = err_from_is_err_and c.from_residual.result c.from_residual.ensures.1 in
    rw (p.1, p.2) (not_begun_writes g.T.Telling.sort c.args.text.now _ c.in_err-telling.field-0.0 refl c.in_err-telling.ensures.err)

pub returns-clause-adds : goal.returns-clause-adds
returns-clause-adds g c =
    begun_adds g.T.Telling.sort c.args.text.now (g.T.Telling.way c.deref_mut.result.now) (rw (← c.deref_mut.ensures.value) at c.in_ok-telling.ensures.ok) c.play.new.output _ _ c.play.result c.play.ensures.ok c.play.ensures.err

pub returns-clause-read : goal.returns-clause-read
returns-clause-read g c = read_nowhere c.play.new.output _ c.play.result c.play.ensures.err

pub returns-clause-write : goal.returns-clause-write
returns-clause-write g c = write_blamed c.play.new.output _ c.play.result c.play.ensures.err
