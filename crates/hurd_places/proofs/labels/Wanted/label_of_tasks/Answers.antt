use Rattle.std.proofs.Common.{◌∙◌, sym}
use Rattle.hurd_places.proofs.PlaceLaws.{labels_here, labels_past}
use Rattle.hurd_places.proofs.labels.Wanted.label_of_tasks.Goals as goal

pub returns-in_default : goal.returns-in_default
returns-in_default c = sym (labels_past c.args.self c.args.tasks.now c.args.rows.now c.loop-i.i c.in_default.ensures.lookup.3) ∙ c.loop-i.invariant

pub returns-in-Some-label_of_task : goal.returns-in-Some-label_of_task
returns-in-Some-label_of_task c =
    labels_here c.args.self c.args.tasks.now c.args.rows.now c.loop-i.i _ c.in-Some.row.now _ c.loop-i-test.true c.in-Some.ensures.lookup.3.0 c.in-Some.ensures.lookup.1
    c.in-Some-label_of_task.ensures
    ∙ c.loop-i.invariant

pub loop-i-preserved : goal.loop-i-preserved
loop-i-preserved c =
    labels_here c.args.self c.args.tasks.now c.args.rows.now c.loop-i.i _ c.in-Some.row.now _ c.loop-i-test.true c.in-Some.ensures.lookup.3.0 c.in-Some.ensures.lookup.1
    c.in_default-label_of_task.ensures
    ∙ c.loop-i.invariant
