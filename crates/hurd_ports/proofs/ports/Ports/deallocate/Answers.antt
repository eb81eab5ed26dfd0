use Rattle.std.proofs.Common.{◌≡◌, Some, length, refl, ap, sym, ◌∙◌, slice_get}
use Rattle.std.proofs.lemmas.Option.{slice_get_read}
use Rattle.std.specs.Prelude.{slice_set}
use Rattle.hurd_ports.specs.declared.table.Port.{Port}
use Rattle.hurd_ports.specs.Tables.{right_in}
use Rattle.hurd_ports.specs.Steps.{without_port}
use Rattle.hurd_ports.specs.Counts.{AreCounted}
use Rattle.hurd_ports.specs.Seats.{seat_task, state_of, tasks_of}
use Rattle.hurd_ports.proofs.PlaceLaws.{right-absent, right-placed}
use Rattle.hurd_ports.proofs.SeatLaws.{seat-ordered}
use Rattle.hurd_ports.proofs.SettleLaws.{Dropped, deallocated, no-right, right-counted, right-uncounted}
use Rattle.hurd_ports.proofs.ports.Ports.deallocate.Goals as goal
use Rattle.hurd_ports.proofs.ports.Ports.deallocate.Goals.{In-Some, After-index}

-- the seat that was found
found_seat : (c : In-Some) → slice_get c.self.inside.tasks.items c.args.task.0 ≡ Some c.in-Some.seat.now
found_seat c =
    let ss = c.self.inside.tasks.items in
    let found = rw c.deref.ensures.value at c.in-Some.ensures.lookup in
    slice_get_read ss (length ss) c.args.task.0 c.in-Some.seat.now refl found.3.0 found.1

pub place-requires : goal.place-requires
place-requires c = seat-ordered _ _ c.args.task.0 _ c.self.invariant.sound (found_seat (goal.at.place-requires c).In-Some)

pub returns-in_default-place-clause-answer : goal.returns-in_default-place-clause-answer
returns-in_default-place-clause-answer c =
    let seat = found_seat (goal.at.returns-in_default-place-clause-answer c).In-Some in
    rw (← c.self.view_is) (no-right _ _ c.args.task.0 c.args.port _ seat (sym (right-absent c.args.port _ (sym c.in_default-place.ensures.is))))

-- and its right
found_right : (c : After-index) → right_in c.args.port c.in-Some.seat.now.ports.items ≡ Some c.index.result.now.right
found_right c = right-placed c.args.port c.in-Some.seat.now.ports.items c.in-Some-place.index (sym c.in-Some-place.ensures.is) c.index.result.now ∙ sym (ap (λ (p : Port). Some p.right) c.index.ensures)

pub subtract-gone-requires : goal.subtract-gone-requires
subtract-gone-requires c = right-counted _ _ c.args.task.0 c.args.port _ _ (found_seat (goal.at.subtract-gone-requires c).In-Some) (found_right (goal.at.subtract-gone-requires c).After-index) c.self.invariant.counted

-- the seat that was read, and what is at the place
at : (c : goal.After-settle) → slice_get c.self.inside.tasks.items c.args.task.0 ≡ Some c.index_mut.result.now
at c =
    let ss = c.self.inside.tasks.items in
    let found = rw c.deref.ensures.value at c.in-Some.ensures.lookup in
    slice_get_read ss (length ss) c.args.task.0 c.index_mut.result.now refl found.3.0 c.index_mut.ensures.value

same : (c : goal.After-settle) → c.index_mut.result.now ≡ c.in-Some.seat.now
same c =
    let again = at c in
    let found = found_seat (goal.at.returns-clause-answer c).In-Some in
    cc

right : (c : goal.After-settle) → right_in c.args.port c.index_mut.result.now.ports.items ≡ Some c.index.result.now.right
right c = rw (same c) (found_right (goal.at.returns-clause-answer c).After-index)

less : (c : goal.After-settle) → seat_task c.remove.new.self ≡ without_port c.args.port (seat_task c.index_mut.result.now)
less c = c.remove.ensures c.args.port (rw (same c) (sym c.in-Some-place.ensures.is))

counts : (c : goal.After-settle) → AreCounted c.subtract-gone.new.self (tasks_of (slice_set c.self.inside.tasks.items c.args.task.0 c.remove.new.self))
counts c =
    right-uncounted c.self.inside.book c.self.inside.tasks.items c.args.task.0 c.args.port c.index_mut.result.now c.index.result.now.right (at c) (right c) c.subtract-gone.new.self c.remove.new.self c.self.invariant.counted (less c)
    c.subtract-gone.ensures.less

done : (c : goal.After-settle)
    → Dropped (state_of c.self.inside.opens.all c.self.inside.tasks.items) (state_of c.settle.new.opens.all (slice_set c.self.inside.tasks.items c.args.task.0 c.remove.new.self)) c.args.task.0 c.args.port
done c =
    let settled = rw c.subtract-gone.ensures.gone at c.settle.ensures in
    deallocated c.subtract-gone.new.self c.self.inside.tasks.items c.args.task.0 c.args.port c.index_mut.result.now c.index.result.now.right (at c) (right c) c.self.inside.opens.all c.settle.new.opens.all c.remove.new.self c.self.invariant.sound
    (less c) (counts c) settled

pub invariant_of-self : goal.invariant_of-self
invariant_of-self c = record { sound = (done c).sound; counted = counts c; spare = tt }

pub returns-clause-answer : goal.returns-clause-answer
returns-clause-answer c = rw (← c.self.view_is) (done c).step

pub returns-clause-settled : goal.returns-clause-settled
returns-clause-settled c = (done c).sound.settled
