use Rattle.hurd_shell.proofs.ProgramLaws.{does_close, does_gives, does_ok, reaches_lost}
use Rattle.hurd_shell.proofs.StageLaws.{ended, err_does, stops}
use Rattle.hurd_shell.proofs.stages.set_and_close.Goals as goal

pub returns : goal.returns
returns g c = rw (c.prints.ensures, c.new.ensures.items) (ended (does_close _ _ (does_ok _ c.in_ok-done.ensures (does_gives _ _ _)) c.in_ok-deallocate.ensures))

pub returns-in_err-done : goal.returns-in_err-done
returns-in_err-done g c = stops c.from_residual-in_err-done.ensures (does_close _ _ (err_does _ _ c.in_err-done.ensures) c.in_ok-deallocate.ensures)

pub returns-in_err-deallocate : goal.returns-in_err-deallocate
returns-in_err-deallocate g c = reaches_lost c.from_residual.ensures
