use Rattle.hurd_shell.proofs.ProgramLaws.{does_gives}
use Rattle.hurd_shell.proofs.StageLaws.{begins, ended}
use Rattle.hurd_shell.proofs.stages.begin.Goals as goal

pub returns-in-Cat : goal.returns-in-Cat
returns-in-Cat g c = begins c.task-task.ensures (rw c.in-Cat.is at c.in_ok-node.ensures) c.with_open.ensures

pub returns-in-Ls : goal.returns-in-Ls
returns-in-Ls g c = begins c.task-task.ensures (rw c.in-Ls.is at c.in_ok-node.ensures) (rw c.to_list.ensures at c.with_open-in-Ls.ensures)

pub returns-in-Stat : goal.returns-in-Stat
returns-in-Stat g c = begins c.task-task.ensures (rw c.in-Stat.is at c.in_ok-node.ensures) c.with_open-in-Stat.ensures

pub returns-in-Put : goal.returns-in-Put
returns-in-Put g c = begins c.task-task.ensures (rw c.in-Put.is at c.in_ok-node.ensures) (rw c.to_write.ensures at c.with_open-in-Put.ensures)

pub returns-in-Mkdir : goal.returns-in-Mkdir
returns-in-Mkdir g c = begins c.task-task.ensures (rw c.in-Mkdir.is at c.in_ok-node.ensures) c.in_place.ensures

pub returns-in-Rm : goal.returns-in-Rm
returns-in-Rm g c = begins c.task-task.ensures (rw c.in-Rm.is at c.in_ok-node.ensures) c.in_place-in-Rm.ensures

pub returns-in-Rmdir : goal.returns-in-Rmdir
returns-in-Rmdir g c = begins c.task-task.ensures (rw c.in-Rmdir.is at c.in_ok-node.ensures) c.in_place-in-Rmdir.ensures

pub returns-in-Ln : goal.returns-in-Ln
returns-in-Ln g c = begins c.task-task.ensures (rw c.in-Ln.is at c.in_ok-node.ensures) (rw c.to_change.ensures at c.with_open-in-Ln.ensures)

pub returns-in-Mv : goal.returns-in-Mv
returns-in-Mv g c = begins c.task-task.ensures (rw c.in-Mv.is at c.in_ok-node.ensures) (rw c.to_enter.ensures at c.with_open-in-Mv.ensures)

pub returns-in-Chmod : goal.returns-in-Chmod
returns-in-Chmod g c = begins c.task-task.ensures (rw c.in-Chmod.is at c.in_ok-node.ensures) (rw c.to_change-in-Chmod.ensures at c.with_open-in-Chmod.ensures)

pub returns-in-Chown : goal.returns-in-Chown
returns-in-Chown g c = begins c.task-task.ensures (rw c.in-Chown.is at c.in_ok-node.ensures) (rw c.to_change-in-Chown.ensures at c.with_open-in-Chown.ensures)

pub returns-in-Showtrans : goal.returns-in-Showtrans
returns-in-Showtrans g c = begins c.task-task.ensures (rw c.in-Showtrans.is at c.in_ok-node.ensures) c.with_open-in-Showtrans.ensures

pub returns-in-Fsysopts : goal.returns-in-Fsysopts
returns-in-Fsysopts g c = begins c.task-task.ensures (rw c.in-Fsysopts.is at c.in_ok-node.ensures) (rw c.to_control.ensures at c.with_open-in-Fsysopts.ensures)

pub returns-in-Settrans : goal.returns-in-Settrans
returns-in-Settrans g c = begins c.task-task.ensures (rw c.in-Settrans.is at c.in_ok-node.ensures) (rw (c.setting_of.ensures, c.to_set.ensures) at c.with_open-in-Settrans.ensures)

pub returns-in-Usage : goal.returns-in-Usage
returns-in-Usage g c = begins c.task-task.ensures (rw c.in-Usage.is at c.in_ok-node.ensures) (rw c.misused.ensures (ended (does_gives _ _ _)))
