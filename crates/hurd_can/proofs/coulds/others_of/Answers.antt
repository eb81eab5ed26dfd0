use Rattle.std.proofs.Common.{arith}
use Rattle.hurd_can.proofs.EndLaws.{others_more}
use Rattle.hurd_can.proofs.coulds.others_of.Goals as goal

pub loop-task-preserved : goal.loop-task-preserved
loop-task-preserved c =
    others_more c.args.who.now c.args.tasks.now c.loop-task.task-index _ c.loop-task.others.items c.add_other.new.others.items (omega arith) c.loop-task.invariant c.in_ok-add_other.ensures
