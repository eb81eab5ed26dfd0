use Rattle.std.proofs.Common.{◌∙◌, ◌++◌, ◌∷◌, [], List, ap, sym}
use Rattle.hurd_creds.specs.declared.name.TaskId.{TaskId}
use Rattle.hurd_teaching.proofs.OwnerLaws.{next_below, no_tasks}
use Rattle.hurd_teaching.proofs.owners.all_tasks.Goals as goal

pub loop-number-init : goal.loop-number-init
loop-number-init c = c.new-tasks.ensures.items ∙ sym no_tasks

pub loop-number-preserved : goal.loop-number-preserved
loop-number-preserved c =
    let this : TaskId = record { 0 = c.loop-number.number } in
    c.in_ok-push.ensures.items ∙ (ap (λ (ts : List TaskId). ts ++ this ∷ []) c.loop-number.invariant ∙ sym (next_below c.loop-number.number))
