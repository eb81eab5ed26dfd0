use Rattle.hurd_shell.proofs.ProgramLaws.{does_close, reaches_lost}
use Rattle.hurd_shell.proofs.StageLaws.{ended, stops}
use Rattle.hurd_shell.proofs.stages.enter_and_close.Goals as goal

pub returns : goal.returns
returns g c = ended (does_close _ _ (does_close _ _ c.in_ok-done.ensures c.in_ok-deallocate.ensures) c.in_ok-deallocate-2.ensures)

pub returns-in_err-done : goal.returns-in_err-done
returns-in_err-done g c =
    stops c.from_residual-in_err-done.ensures (does_close _ _ (does_close _ _ c.in_err-done.ensures c.in_ok-deallocate.ensures) c.in_ok-deallocate-2.ensures)

pub returns-in_err-deallocate : goal.returns-in_err-deallocate
returns-in_err-deallocate g c = reaches_lost c.from_residual.ensures

pub returns-in_err-deallocate-2 : goal.returns-in_err-deallocate-2
returns-in_err-deallocate-2 g c = reaches_lost c.from_residual-in_err-deallocate-2.ensures
