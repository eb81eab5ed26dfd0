use Rattle.std.proofs.Common.{◌≡◌, refl, sym, ap, ◌∙◌, arith}
use Rattle.std.specs.Prelude.{Some, slice_get}
use Rattle.hurd_ports.specs.Tables.{Task, has_room}
use Rattle.hurd_ports.specs.Steps.{with_port}
use Rattle.hurd_ports.specs.Seats.{seat_task, state_of}
use Rattle.hurd_ports.proofs.RoomLaws.{Roomy, room-is}
use Rattle.hurd_ports.proofs.SeatLaws.{seat-read}
use Rattle.hurd_ports.proofs.CountLaws.{counts-fit}
use Rattle.hurd_ports.proofs.EditLaws.{SeatAt, as_it_was, kept-changed, ported, seat-did, seat-kept, share-done, shared-new}
use Rattle.hurd_ports.proofs.ports.Ports.share.Goals as goal
use Rattle.hurd_ports.proofs.ports.Ports.share.Goals.{After-reserve_port}

-- there is room for the port
room : (c : After-reserve_port) → Roomy (state_of c.self.inside.opens.all c.self.inside.tasks.items) c.args.task.0 0
room c = room-is _ _ _ (rw (← c.self.view_is) at c.requires)

-- the seat that was read is that of the task
found : (c : After-reserve_port) → let s = c.index_mut-seat.result.now in (slice_get c.self.inside.tasks.items c.args.task.0 ≡ Some s) × (seat_task s ≡ (room c).task)
found c = seat-read c.self.inside.tasks.items c.args.task.0 c.index_mut-seat.result.now (room c).task (room c).there c.index_mut-seat.ensures.value

at : (c : After-reserve_port) → SeatAt c.self.inside.opens.all c.self.inside.tasks.items c.args.task.0 c.index_mut-seat.result.now
at c = record { is = (found c).0 }

-- where the ports find no room

pub invariant_of-self-in_default-reserve_port : goal.invariant_of-self-in_default-reserve_port
invariant_of-self-in_default-reserve_port c =
    kept-changed (at (goal.at.invariant_of-self-in_default-reserve_port c).After-reserve_port) c.reserve.new.self c.reserve_port.new.self c.self.invariant (as_it_was _) c.reserve_port.ensures.kept refl
    (λ k n. omega (arith, c.reserve.ensures.kept k n)) tt

pub returns-in_default-reserve_port-clause-err : goal.returns-in_default-reserve_port-clause-err
returns-in_default-reserve_port-clause-err c =
    rw (← c.self.view_is) (refl, seat-kept (at (goal.at.returns-in_default-reserve_port-clause-err c).After-reserve_port) _ _ c.reserve_port.ensures.kept refl)

pub returns-in_default-reserve_port-clause-settled : goal.returns-in_default-reserve_port-clause-settled
returns-in_default-reserve_port-clause-settled c = (invariant_of-self-in_default-reserve_port c).sound.settled

-- and where they do

added : (c : goal.After-self-2-1) → seat_task c.add-2.new.self ≡ with_port c.args.right (seat_task c.index_mut-seat.result.now)
added c = c.add-2.ensures.added ∙ ap (with_port c.args.right) c.reserve_port.ensures.kept

number : (c : goal.After-self-2-1) → c.add-2.result ≡ c.index_mut-seat.result.now.next
number c = c.add-2.ensures.number ∙ ap (λ (x : Task). x.next) c.reserve_port.ensures.kept

pub add-requires-clause-fits : goal.add-requires-clause-fits
add-requires-clause-fits c k n = omega (arith, counts-fit _ _ c.self.invariant.counted k n, c.reserve.ensures.kept k n)

pub invariant_of-self-2 : goal.invariant_of-self-2
invariant_of-self-2 c =
    kept-changed (at (goal.at.invariant_of-self-2 c).After-reserve_port) c.add.new.self c.add-2.new.self c.self.invariant (ported _ c.args.right) (added c) (omega (arith, c.add.ensures.short))
    (λ k n. omega (arith, c.reserve.ensures.kept k n, c.add.ensures.more k n)) tt

pub returns-clause-ok : goal.returns-clause-ok
returns-clause-ok c =
    let before = (goal.at.returns-clause-ok c).After-reserve_port in
    rw (← c.self.view_is, number c)
    (sym (seat-did (at before) _ _ _ _ (share-done (at before) c.args.right (ap (has_room 0) (found before).1 ∙ (room before).room)) (added c)))

pub returns-clause-settled : goal.returns-clause-settled
returns-clause-settled c = (invariant_of-self-2 c).sound.settled

pub returns-clause-new : goal.returns-clause-new
returns-clause-new c = rw (number c) (shared-new (at (goal.at.returns-clause-new c).After-reserve_port) _ _ c.self.invariant.sound (added c))
