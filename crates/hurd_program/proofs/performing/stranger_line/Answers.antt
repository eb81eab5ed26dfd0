use Rattle.hurd_program.proofs.performing.stranger_line.Goals as goal

pub returns-in-Run : goal.returns-in-Run
returns-in-Run c = rw c.in-Run.is c.new.ensures.items
