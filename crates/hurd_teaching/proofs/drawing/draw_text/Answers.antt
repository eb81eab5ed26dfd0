use Rattle.hurd_teaching.proofs.drawing.draw_text.Goals as goal

pub returns-in-Some-clause-adds : goal.returns-in-Some-clause-adds
returns-in-Some-clause-adds g c = rw c.in-Some.is (rw c.as_str.ensures.value at c.draw_for.ensures.adds)

pub returns-in-None-clause-adds : goal.returns-in-None-clause-adds
returns-in-None-clause-adds g c = rw c.in-None.is c.draw_all.ensures.adds
