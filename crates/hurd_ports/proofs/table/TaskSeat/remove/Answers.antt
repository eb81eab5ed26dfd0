use Rattle.std.proofs.Common.{List, ap, ◌∙◌}
use Rattle.hurd_ports.specs.declared.table.Port.{Port}
use Rattle.hurd_ports.specs.Tables.{Task}
use Rattle.hurd_ports.proofs.PlaceLaws.{without-placed}
use Rattle.hurd_ports.proofs.table.TaskSeat.remove.Goals as goal

pub returns : goal.returns
returns c number at =
    ap (λ (ps : List Port). let x : Task = record { ids = c.args.self.now.ids; ports = ps; next = c.args.self.now.next; inbox = c.args.self.now.inbox.items; made = c.args.self.now.made; pending = c.args.self.now.pending } in x)
    (c.remove.ensures.items ∙ without-placed number c.args.self.now.ports.items c.args.index at)
