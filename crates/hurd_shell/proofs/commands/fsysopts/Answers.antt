use Rattle.hurd_shell.proofs.ProgramLaws.{does_close, does_err, does_lost, does_ok}
use Rattle.hurd_shell.proofs.commands.fsysopts.Goals as goal

pub returns : goal.returns
returns g c = does_ok _ c.in_ok-control.ensures (does_close _ _ c.options-done.ensures c.in_ok-deallocate.ensures)

pub returns-in_err-control : goal.returns-in_err-control
returns-in_err-control g c = does_err _ c.from_residual.ensures c.in_err-control.ensures

pub returns-in_err-deallocate : goal.returns-in_err-deallocate
returns-in_err-deallocate g c = does_lost c.from_residual-in_err-deallocate.ensures
