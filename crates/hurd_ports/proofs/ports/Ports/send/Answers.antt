use Rattle.std.proofs.Common.{◌≡◌, ◌<◌, Ok, length, refl, ap, sym, ◌∙◌, arith, Result}
use Rattle.std.proofs.lemmas.Option.{slice_get_read}
use Rattle.hurd_creds.specs.declared.errno.Errno.{Errno}
use Rattle.hurd_ports.specs.declared.table.Right.{Right}
use Rattle.hurd_ports.specs.Tables.{Task, right_of}
use Rattle.hurd_ports.specs.Steps.{with_sent}
use Rattle.hurd_ports.specs.Seats.{seat_task, state_of}
use Rattle.hurd_ports.proofs.CountLaws.{counts-fit}
use Rattle.hurd_ports.proofs.EditLaws.{SeatAt, as_it_was, kept-changed, right-kept, seat-answered, seat-short, send-done, sent, task-there}
use Rattle.hurd_ports.proofs.ports.Ports.send.Goals as goal
use Rattle.hurd_ports.proofs.ports.Ports.send.Goals.{After-reserve_sent}

-- the seat that was read
below : (c : After-reserve_sent) → c.args.to.0 < length c.self.inside.tasks.items
below c = task-there c.self.inside.opens.all _ _ c.in_ok-has_task.field-0 (rw (← c.self.view_is) at c.in_ok-has_task.ensures)

at : (c : After-reserve_sent) → SeatAt c.self.inside.opens.all c.self.inside.tasks.items c.args.to.0 c.index_mut-seat.result.now
at c = record { is = slice_get_read _ _ _ _ refl (below c) c.index_mut-seat.ensures.value }

-- the right that was copied
copied : (c : After-reserve_sent) → right_of (state_of c.self.inside.opens.all c.self.inside.tasks.items) c.args.task.0 c.args.port ≡ Ok c.in-Ok.right
copied c = sym (ap (λ (r : Right). let a : Result Right Errno = Ok r in a) c.in-Ok.ensures ∙ (rw (← c.self.view_is) at c.in_ok-right.ensures))

-- where the inbox finds no room

pub invariant_of-self-in_default-reserve_sent : goal.invariant_of-self-in_default-reserve_sent
invariant_of-self-in_default-reserve_sent c =
    kept-changed (at (goal.at.invariant_of-self-in_default-reserve_sent c).After-reserve_sent) c.reserve.new.self c.reserve_sent.new.self c.self.invariant (as_it_was _) c.reserve_sent.ensures.kept refl
    (λ k n. omega (arith, c.reserve.ensures.kept k n)) tt

pub returns-in_default-reserve_sent-clause-answer : goal.returns-in_default-reserve_sent-clause-answer
returns-in_default-reserve_sent-clause-answer c =
    let before = (goal.at.returns-in_default-reserve_sent-clause-answer c).After-reserve_sent in
    rw (← c.self.view_is) (seat-short (at before) _ _ _ _ (send-done (at before) c.args.task.0 c.args.port c.in-Ok.right (copied before) (below before)) c.reserve_sent.ensures.kept)

pub returns-in_default-reserve_sent-clause-port : goal.returns-in_default-reserve_sent-clause-port
returns-in_default-reserve_sent-clause-port c =
    rw (← c.self.view_is) (right-kept (at (goal.at.returns-in_default-reserve_sent-clause-port c).After-reserve_sent) _ c.args.task.0 c.args.port (ap (λ (x : Task). x.ports) c.reserve_sent.ensures.kept))

pub returns-in_default-reserve_sent-clause-settled : goal.returns-in_default-reserve_sent-clause-settled
returns-in_default-reserve_sent-clause-settled c = (invariant_of-self-in_default-reserve_sent c).sound.settled

-- and where it does

accepted : (c : goal.After-self-2-1) → seat_task c.accept.new.self ≡ with_sent c.in-Ok.right (seat_task c.index_mut-seat.result.now)
accepted c = c.accept.ensures ∙ ap (with_sent c.in-Ok.right) c.reserve_sent.ensures.kept

pub invariant_of-self-2 : goal.invariant_of-self-2
invariant_of-self-2 c =
    kept-changed (at (goal.at.invariant_of-self-2 c).After-reserve_sent) c.add.new.self c.accept.new.self c.self.invariant (sent _ c.in-Ok.right) (accepted c) (omega (arith, c.add.ensures.short))
    (λ k n. omega (arith, c.reserve.ensures.kept k n, c.add.ensures.more k n)) tt

pub add-requires-clause-fits : goal.add-requires-clause-fits
add-requires-clause-fits c k n = omega (arith, counts-fit _ _ c.self.invariant.counted k n, c.reserve.ensures.kept k n)

pub returns-clause-answer : goal.returns-clause-answer
returns-clause-answer c =
    let before = (goal.at.returns-clause-answer c).After-reserve_sent in
    rw (← c.self.view_is) (seat-answered (at before) _ _ _ _ (send-done (at before) c.args.task.0 c.args.port c.in-Ok.right (copied before) (below before)) (accepted c))

pub returns-clause-settled : goal.returns-clause-settled
returns-clause-settled c = (invariant_of-self-2 c).sound.settled

pub returns-clause-port : goal.returns-clause-port
returns-clause-port c =
    rw (← c.self.view_is) (right-kept (at (goal.at.returns-clause-port c).After-reserve_sent) _ c.args.task.0 c.args.port (ap (λ (x : Task). x.ports) (accepted c)))
