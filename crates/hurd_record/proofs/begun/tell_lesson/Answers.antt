use Rattle.hurd_record.proofs.BegunLaws.{step_sees}
use Rattle.hurd_record.proofs.begun.tell_lesson.Goals as goal

pub returns-then-branch-clause-seen : goal.returns-then-branch-clause-seen
returns-then-branch-clause-seen g c = step_sees _ _ _ _ _ _ _ _ _ _ (rw c.if-branch.true at c.in_ok-tell_next.ensures.ok)
