use Rattle.std.proofs.Common.{◌≡◌, refl, sym, arith}
use Rattle.std.proofs.lemmas.Bool.Decides.{nat_tests}
use Rattle.std.proofs.lemmas.Option.{slice_get_read}
use Rattle.hurd_ports.proofs.EditLaws.{SeatAt, kept-changed, receiving, seat-received}
use Rattle.hurd_ports.proofs.ports.Ports.receive.Goals as goal

-- the seat that was read
at : (c : goal.After-self-2-1) → SeatAt c.self.inside.opens.all c.self.inside.tasks.items c.args.task.0 c.index_mut.result.now
at c = let found = rw c.deref.ensures.value at c.in-Some.ensures.lookup in record { is = slice_get_read c.self.inside.tasks.items _ c.args.task.0 _ refl found.3.0 c.index_mut.ensures.value }

-- it is the one that was found
found_again : (c : goal.After-self-2-1) → c.in-Some.seat.now ≡ c.index_mut.result.now
found_again c =
    let found = rw c.deref.ensures.value at c.in-Some.ensures.lookup in
    let one = slice_get_read c.self.inside.tasks.items _ c.args.task.0 c.in-Some.seat.now refl found.3.0 found.1 in
    let other = (at c).is in
    cc

pub invariant_of-self : goal.invariant_of-self
invariant_of-self c = kept-changed (at c) c.self.inside.book c.receive.new.self c.self.invariant (receiving _ _) c.receive.ensures.left refl (λ k n. refl) tt

pub returns-clause-answer : goal.returns-clause-answer
returns-clause-answer c =
    let empty = rw (found_again c) at c.is_empty.ensures in
    let not_empty = c.if-is_empty.false in
    rw (← c.self.view_is) (seat-received (at c) c.receive.new.self c.receive.result (grind (arith, nat_tests)) (sym (rw (found_again c) at c.if-not-has_room.ensures)) c.receive.ensures)

pub returns-clause-settled : goal.returns-clause-settled
returns-clause-settled c = (invariant_of-self c).sound.settled
