use Rattle.hurd_shell.proofs.StageLaws.{goes_on, opens_waits}
use Rattle.hurd_shell.proofs.stages.opened.Goals as goal

pub returns-in-Opened : goal.returns-in-Opened
returns-in-Opened g c = rw c.in-Opened.is (goes_on _ _ c.work_at_node.ensures)

pub returns-in_ok-at-in-Waits : goal.returns-in_ok-at-in-Waits
returns-in_ok-at-in-Waits g c = rw (c.in-Waits.is, c.in_ok-at-in-Waits.ensures) (opens_waits _ _ _ _ _)
