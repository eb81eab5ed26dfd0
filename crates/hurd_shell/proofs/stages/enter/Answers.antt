use Rattle.hurd_shell.proofs.StageLaws.{reaches_inside, refused_inside}
use Rattle.hurd_shell.proofs.stages.enter.Goals as goal

pub returns-in-Ok : goal.returns-in-Ok
returns-in-Ok g c =
    let opened = rw c.to_enter.ensures at c.in-Ok.ensures in
    reaches_inside _ _ opened c.entered.ensures

pub returns-in-Err : goal.returns-in-Err
returns-in-Err g c =
    let opened = rw c.to_enter.ensures at c.in-Err.ensures in
    refused_inside _ _ _ opened c.close_refused.ensures.refused c.close_refused.ensures.lost
