use Rattle.std.proofs.Common.{ap, sym, nat_lt, ◌∙◌}
use Rattle.hurd_ports.specs.Counts.{Servers}
use Rattle.hurd_ports.specs.Seats.{tasks_of}
use Rattle.hurd_ports.proofs.CountLaws.{controlled-counted}
use Rattle.hurd_ports.proofs.ports.Ports.controls.Goals as goal

pub returns : goal.returns
returns c =
    rw (← c.self.view_is)
    (c.names_server.ensures ∙ ap (nat_lt 0) (c.self.invariant.counted.all Servers c.args.server) ∙ sym (controlled-counted (tasks_of c.self.inside.tasks.items) c.args.server))
