use Rattle.std.proofs.Common.{sym, ap, ◌∙◌, Some}
use Rattle.hurd_ports.specs.declared.table.Port.{Port}
use Rattle.hurd_ports.proofs.PlaceLaws.{right-placed, right-absent}
use Rattle.hurd_ports.proofs.table.TaskSeat.find.Goals as goal

pub returns-in-Some : goal.returns-in-Some
returns-in-Some c =
    ap (λ (p : Port). Some p.right) c.index.ensures ∙ sym (right-placed c.args.number c.args.self.now.ports.items c.in-Some.i (sym c.in-Some.ensures.is) c.index.result.now)

pub returns-in-None : goal.returns-in-None
returns-in-None c = sym (right-absent c.args.number c.args.self.now.ports.items (sym c.in-None.ensures.is))
