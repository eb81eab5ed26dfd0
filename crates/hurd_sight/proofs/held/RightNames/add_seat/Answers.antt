use Rattle.hurd_ports.specs.Seats.{seat_task}
use Rattle.hurd_sight.proofs.NameLaws.{seat_rights}
use Rattle.hurd_sight.proofs.held.RightNames.add_seat.Goals as goal
use Rattle.std.proofs.lemmas.Result.{on_ok_weaker}

pub returns : goal.returns
returns c =
    on_ok_weaker c.add_rights.result
    (λ sent. seat_rights c.args.ports.now.state.opens (seat_task c.args.seat.now) c.args.self.now (rw c.deref.ensures.value at c.in_ok-add_ports.ensures) (rw c.deref-2.ensures.value at sent))
    c.add_rights.ensures
