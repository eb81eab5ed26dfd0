use Rattle.hurd_calls.proofs.beginning.blamed.Goals as goal

pub returns-in-Bad : goal.returns-in-Bad
returns-in-Bad c =
    let bad = rw c.in-Bad.is at c.requires in
    rw bad (rw c.text.ensures at c.complaint.ensures)
