use Rattle.hurd_run.proofs.ComplaintLaws.{bad_said}
use Rattle.hurd_run.proofs.session.blamed.Goals as goal

pub returns-in-Bad : goal.returns-in-Bad
returns-in-Bad c =
    let bad = rw c.in-Bad.is at c.requires in
    rw (bad_said c.args.text.now c.in-Bad.line c.in-Bad.flaw bad.0 bad.1) (rw c.text.ensures at c.complaint.ensures)
