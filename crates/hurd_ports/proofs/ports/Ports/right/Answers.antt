use Rattle.std.proofs.Common.{length, refl}
use Rattle.std.proofs.lemmas.Option.{slice_get_read}
use Rattle.hurd_ports.proofs.SeatLaws.{seat-ordered}
use Rattle.hurd_ports.proofs.ports.Ports.right.Goals as goal

pub find-requires : goal.find-requires
find-requires c =
    let ss = c.self.inside.tasks.items in
    let found = rw c.deref.ensures.value at c.in-Some.ensures.lookup in
    let seat = slice_get_read ss (length ss) c.args.task.0 c.in-Some.seat.now refl found.3.0 found.1 in
    seat-ordered c.self.inside.opens.all ss c.args.task.0 c.in-Some.seat.now c.self.invariant.sound seat
