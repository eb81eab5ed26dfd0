use Rattle.hurd_shell.proofs.StageLaws.{enters_waits, goes_on_inside}
use Rattle.hurd_shell.proofs.stages.entered.Goals as goal

pub returns-in-Opened : goal.returns-in-Opened
returns-in-Opened g c = rw c.in-Opened.is (goes_on_inside _ _ _ c.enter_and_close.ensures)

pub returns-in_ok-at-in-Waits : goal.returns-in_ok-at-in-Waits
returns-in_ok-at-in-Waits g c = rw (c.in-Waits.is, c.in_ok-at-in-Waits.ensures) (enters_waits _ _ _ _ _ _ _)
