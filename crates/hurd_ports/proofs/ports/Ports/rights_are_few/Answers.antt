use Rattle.hurd_ports.proofs.CountLaws.{rights-fit}
use Rattle.hurd_ports.proofs.ports.Ports.rights_are_few.Goals as goal

pub returns : goal.returns
returns c test = rw (← c.self.view_is) (rights-fit c.self.inside.book c.self.inside.tasks.items c.self.invariant.counted test)
