use Rattle.hurd_shell.proofs.stages.work_at_node.Goals as goal

pub returns-in-Node : goal.returns-in-Node
returns-in-Node g c = rw c.in-Node.is c.work_and_close.ensures

pub returns-in-Entry : goal.returns-in-Entry
returns-in-Entry g c = rw c.in-Entry.is c.enter.ensures

pub returns-in-Set : goal.returns-in-Set
returns-in-Set g c = rw c.in-Set.is c.set.ensures
