use Rattle.std.proofs.Common.{ap₂, sym, nat_lt, ◌||◌, ◌∙◌, ℕ}
use Rattle.hurd_ports.specs.Counts.{Besides, Uses}
use Rattle.hurd_ports.specs.Seats.{tasks_of}
use Rattle.hurd_ports.proofs.CountLaws.{named-counted}
use Rattle.hurd_ports.proofs.ports.Ports.names_node.Goals as goal

pub returns : goal.returns
returns c =
    let counted = c.self.invariant.counted.all in
    rw (← c.self.view_is)
    (c.names_node.ensures
    ∙ ap₂ (λ (a b : ℕ). nat_lt 0 a || nat_lt 0 b) (counted Uses c.args.node) (counted Besides c.args.node)
    ∙ sym (named-counted (tasks_of c.self.inside.tasks.items) c.args.node))
