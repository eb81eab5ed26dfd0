use Rattle.hurd_program.proofs.performing.done_of.Goals as goal

pub returns-in-Run-clause-adds : goal.returns-in-Run-clause-adds
returns-in-Run-clause-adds g c = rw c.in-Run.is c.transcribe.ensures.adds

pub returns-in-Learn-clause-adds : goal.returns-in-Learn-clause-adds
returns-in-Learn-clause-adds g c = rw c.in-Learn.is (rw c.as_str.ensures.value at c.learn_text.ensures.adds)

pub returns-in-Can-clause-adds : goal.returns-in-Can-clause-adds
returns-in-Can-clause-adds g c = rw c.in-Can.is (rw c.as_str-in-Can.ensures.value at c.could_text.ensures.adds)
