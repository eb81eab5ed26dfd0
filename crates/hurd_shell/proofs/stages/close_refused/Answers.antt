use Rattle.hurd_shell.proofs.ProgramLaws.{reaches_lost}
use Rattle.hurd_shell.proofs.StageLaws.{lost, refused_closed}
use Rattle.hurd_shell.proofs.stages.close_refused.Goals as goal

pub returns : goal.returns
returns g c = record {
  refused = λ errno same. refused_closed _ _ errno _ same c.in_ok-deallocate.ensures;
  lost = λ same. rw same;
}

pub returns-in_err-deallocate : goal.returns-in_err-deallocate
returns-in_err-deallocate g c = record {
  refused = λ errno same. reaches_lost c.from_residual.ensures;
  lost = λ same. lost _ c.from_residual.ensures;
}
