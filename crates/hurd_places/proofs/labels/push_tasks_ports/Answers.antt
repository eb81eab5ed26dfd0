use Rattle.hurd_places.proofs.PlaceLaws.{beside_here, beside_past}
use Rattle.hurd_places.proofs.labels.push_tasks_ports.Goals as goal

pub returns-in_default : goal.returns-in_default
returns-in_default c = beside_past c.args.many c.args.node c.args.tasks.now c.args.rows.now c.loop-i.i c.loop-i.text.items _ c.in_default.ensures.lookup.3 c.loop-i.invariant

pub loop-i-preserved : goal.loop-i-preserved
loop-i-preserved c =
    beside_here c.args.many c.args.node c.args.tasks.now c.args.rows.now c.loop-i.i _ c.in-Some.row.now c.loop-i.text.items _ _ c.loop-i-test.true c.in-Some.ensures.lookup.3.0
    c.in-Some.ensures.lookup.1 c.in_ok-push_task_ports.ensures c.loop-i.invariant
