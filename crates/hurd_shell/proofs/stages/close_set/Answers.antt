use Rattle.hurd_shell.proofs.ProgramLaws.{reaches_lost}
use Rattle.hurd_shell.proofs.StageLaws.{set_closed, unset_closed}
use Rattle.hurd_shell.proofs.stages.close_set.Goals as goal

pub returns-in-Ok : goal.returns-in-Ok
returns-in-Ok g c = rw (c.in-Ok.is, c.prints.ensures, c.new.ensures.items) (set_closed _ _ _ c.in_ok-deallocate.ensures)

pub returns-in-Err : goal.returns-in-Err
returns-in-Err g c = rw c.in-Err.is (unset_closed _ _ _ c.in_ok-deallocate.ensures)

pub returns-in_err-deallocate : goal.returns-in_err-deallocate
returns-in_err-deallocate g c = reaches_lost c.from_residual.ensures
