use Rattle.std.proofs.Common.{sym, ◌∙◌}
use Rattle.hurd_ports.specs.Counts.{Uses}
use Rattle.hurd_ports.specs.Seats.{tasks_of}
use Rattle.hurd_ports.proofs.CountLaws.{uses-counted}
use Rattle.hurd_ports.proofs.ports.Ports.uses.Goals as goal

pub returns : goal.returns
returns c =
    rw (← c.self.view_is)
    (c.use_count.ensures ∙ c.self.invariant.counted.all Uses c.args.node ∙ sym (uses-counted (tasks_of c.self.inside.tasks.items) c.args.node))
