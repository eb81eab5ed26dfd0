use Rattle.hurd_shell.proofs.ProgramLaws.{reaches_ok}
use Rattle.hurd_shell.proofs.StageLaws.{reaches_err}
use Rattle.hurd_shell.proofs.stages.resume.Goals as goal

pub returns-in_ok-reached-in-Opens : goal.returns-in_ok-reached-in-Opens
returns-in_ok-reached-in-Opens g c = rw c.in-Opens.is (reaches_ok _ c.in_ok-reached-in-Opens.ensures c.opened.ensures)

pub returns-in_err-reached-in-Opens : goal.returns-in_err-reached-in-Opens
returns-in_err-reached-in-Opens g c = rw c.in-Opens.is (reaches_err _ c.from_residual.ensures c.in_err-reached-in-Opens.ensures)

pub returns-in-Enters : goal.returns-in-Enters
returns-in-Enters g c = rw c.in-Enters.is c.enter_with.ensures

pub returns-in-Sets : goal.returns-in-Sets
returns-in-Sets g c = rw c.in-Sets.is c.close_set.ensures
