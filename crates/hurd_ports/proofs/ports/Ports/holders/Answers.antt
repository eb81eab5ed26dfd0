use Rattle.std.proofs.Common.{sym, ◌∙◌}
use Rattle.hurd_ports.specs.Counts.{Opens}
use Rattle.hurd_ports.specs.Seats.{tasks_of}
use Rattle.hurd_ports.proofs.CountLaws.{opens-counted}
use Rattle.hurd_ports.proofs.ports.Ports.holders.Goals as goal

pub returns : goal.returns
returns c =
    rw (← c.self.view_is)
    (c.open_count.ensures ∙ c.self.invariant.counted.all Opens c.args.name ∙ sym (opens-counted (tasks_of c.self.inside.tasks.items) c.args.name))
