use Rattle.hurd_run.proofs.AskedLaws.{Asking, turns_left}
use Rattle.hurd_run.proofs.session.next_part.Given as goal

abbrev pub invariant-asked : goal.invariant-asked
invariant-asked l = Asking l.fn.session l.session

abbrev pub decreases-asked : goal.decreases-asked
decreases-asked l = turns_left l.session
