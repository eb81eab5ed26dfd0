use Rattle.hurd_shell.proofs.StageLaws.{reaches_inside, refused_inside}
use Rattle.hurd_shell.proofs.stages.enter_with.Goals as goal

pub returns-in-Ok : goal.returns-in-Ok
returns-in-Ok g c = reaches_inside _ _ c.in-Ok.ensures c.entered.ensures

pub returns-in-Err : goal.returns-in-Err
returns-in-Err g c = refused_inside _ _ _ c.in-Err.ensures c.close_refused.ensures.refused c.close_refused.ensures.lost
