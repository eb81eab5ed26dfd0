use Rattle.std.proofs.Common.{arith}
use Rattle.hurd_core.specs.Core.{world_of}
use Rattle.hurd_can.proofs.RecallLaws.{none_asked, task_more}
use Rattle.hurd_can.proofs.remembering.remember.Goals as goal

pub loop-task-init : goal.loop-task-init
loop-task-init g c = none_asked c.args.last.now (world_of g.S.Server.meaning c.args.core.now) c.args.all.now.items

pub loop-task-preserved : goal.loop-task-preserved
loop-task-preserved g c =
    task_more c.args.last.now (world_of g.S.Server.meaning c.args.core.now) c.args.tasks.now c.loop-task.task-index _ c.args.all.now.items c.loop-task.all.items c.remember_one.new.all.items (omega arith) c.loop-task.invariant
    c.in_ok-remember_one.ensures
