use Rattle.hurd_shell.proofs.ProgramLaws.{reaches_ok}
use Rattle.hurd_shell.proofs.StageLaws.{reaches_err}
use Rattle.hurd_shell.proofs.stages.with_open.Goals as goal

pub returns : goal.returns
returns g c = reaches_ok _ c.in_ok-reached.ensures c.opened.ensures

pub returns-in_err-reached : goal.returns-in_err-reached
returns-in_err-reached g c = reaches_err _ c.from_residual.ensures c.in_err-reached.ensures
