use Rattle.hurd_machine.proofs.Common.{seat_task, shown}
use Rattle.hurd_sight.proofs.NodeLaws.{of_rights}
use Rattle.hurd_sight.proofs.found.Found.add_seat.Goals as goal
use Rattle.std.proofs.lemmas.Result.{on_ok_weaker}

pub returns : goal.returns
returns g c =
    on_ok_weaker c.add_rights.result
    (λ sent. of_rights _ (shown g.S.Server.meaning c.args.nodes.now) (seat_task c.args.seat.now) c.in_ok-add_start.ensures (rw c.deref.ensures.value at c.in_ok-add_ports.ensures) (rw c.deref-2.ensures.value at sent))
    c.add_rights.ensures
