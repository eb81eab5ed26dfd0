use Rattle.hurd_ports.specs.Seats.{seat_task}
use Rattle.hurd_sight.proofs.ReachLaws.{gains_both, task_gains}
use Rattle.hurd_sight.proofs.reach.Reach.add_task.Goals as goal
use Rattle.std.proofs.lemmas.Result.{on_ok_weaker}

pub returns : goal.returns
returns c =
    on_ok_weaker c.add_rights.result
    (λ rights. task_gains (seat_task c.args.seat.now) (gains_both (gains_both c.in_ok-add_ids.ensures (rw c.deref.ensures.value at c.in_ok-add_ports.ensures)) (rw c.deref-2.ensures.value at rights)))
    c.add_rights.ensures
