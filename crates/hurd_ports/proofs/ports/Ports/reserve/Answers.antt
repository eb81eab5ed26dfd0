use Rattle.std.proofs.Common.{refl, arith}
use Rattle.std.proofs.lemmas.List.{length-map}
use Rattle.std.proofs.lemmas.Option.{slice_get_read}
use Rattle.hurd_ports.specs.Seats.{seat_task}
use Rattle.hurd_ports.proofs.SeatLaws.{ready-made}
use Rattle.hurd_ports.proofs.EditLaws.{SeatAt, as_it_was, kept-changed, seat-kept}
use Rattle.hurd_ports.proofs.ports.Ports.reserve.Goals as goal

-- the seat that was read, where its ports find no room

seat : (c : goal.In_default-reserve_port) → SeatAt c.self.inside.opens.all c.self.inside.tasks.items c.args.task.0 c.index_mut.result.now
seat c = record { is = slice_get_read c.self.inside.tasks.items _ c.args.task.0 _ refl (rw (← c.self.view_is, length-map c.self.inside.tasks.items seat_task) at c.requires) c.index_mut.ensures.value }

pub invariant_of-self-in_default-reserve_port : goal.invariant_of-self-in_default-reserve_port
invariant_of-self-in_default-reserve_port c =
    rw c.reserve.ensures.kept
    (kept-changed (seat c) c.reserve-2.new.self c.reserve_port.new.self c.self.invariant (as_it_was _) c.reserve_port.ensures.kept refl (λ k n. omega (arith, c.reserve-2.ensures.kept k n)) tt)

pub returns-in_default-reserve_port-clause-kept : goal.returns-in_default-reserve_port-clause-kept
returns-in_default-reserve_port-clause-kept c = rw (← c.self.view_is) (seat-kept (seat c) _ _ c.reserve_port.ensures.kept c.reserve.ensures.kept)

pub returns-in_default-reserve_port-clause-settled : goal.returns-in_default-reserve_port-clause-settled
returns-in_default-reserve_port-clause-settled c = (invariant_of-self-in_default-reserve_port c).sound.settled

-- and where they do

at : (c : goal.After-self-3-1) → SeatAt c.self.inside.opens.all c.self.inside.tasks.items c.args.task.0 c.index_mut.result.now
at c = record { is = slice_get_read c.self.inside.tasks.items _ c.args.task.0 _ refl (rw (← c.self.view_is, length-map c.self.inside.tasks.items seat_task) at c.requires) c.index_mut.ensures.value }

pub invariant_of-self-2 : goal.invariant_of-self-2
invariant_of-self-2 c =
    rw c.reserve.ensures.kept
    (kept-changed (at c) c.reserve-2.new.self c.reserve_port.new.self c.self.invariant (as_it_was _) c.reserve_port.ensures.kept refl (λ k n. omega (arith, c.reserve-2.ensures.kept k n))
    (ready-made c.reserve.new.self.room c.reserve-2.new.self c.self.inside.tasks.items c.args.task c.index_mut.result.now c.reserve_port.new.self (at c).is c.in-Ok.ensures.room c.in-Ok-reserve.ensures.room c.in-Ok-reserve_port.ensures.room))

pub returns-clause-kept : goal.returns-clause-kept
returns-clause-kept c = rw (← c.self.view_is) (seat-kept (at c) _ _ c.reserve_port.ensures.kept c.reserve.ensures.kept)

pub returns-clause-settled : goal.returns-clause-settled
returns-clause-settled c = (invariant_of-self-2 c).sound.settled
