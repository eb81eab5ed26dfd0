use Rattle.std.proofs.Common.{Some, refl, arith}
use Rattle.std.proofs.lemmas.Option.{slice_get_read}
use Rattle.hurd_ports.proofs.EditLaws.{SeatAt, kept-changed, pend-done, pended, seat-answered}
use Rattle.hurd_ports.proofs.CountLaws.{counts-fit, start-counted}
use Rattle.hurd_ports.proofs.ports.Ports.pend.Goals as goal

-- the seat that was read
at : (c : goal.After-self-2-1) → SeatAt c.self.inside.opens.all c.self.inside.tasks.items c.args.task.0 c.index_mut-seat.result.now
at c = record { is = slice_get_read c.self.inside.tasks.items _ c.args.task.0 _ refl (omega (arith, c.self.inside.tasks.ok.0)) c.index_mut-seat.ensures.value }

pub add-requires-clause-fits : goal.add-requires-clause-fits
add-requires-clause-fits c k n = omega (arith, counts-fit _ _ c.self.invariant.counted k n, c.reserve.ensures.kept k n)

pub subtract_start-requires : goal.subtract_start-requires
subtract_start-requires c k n =
    let seat = slice_get_read c.self.inside.tasks.items _ c.args.task.0 c.index_mut-seat.result.now refl (omega (arith, c.self.inside.tasks.ok.0)) c.index_mut-seat.ensures.value in
    omega (arith, start-counted _ _ _ _ seat c.self.invariant.counted k n, c.reserve.ensures.kept k n, c.add.ensures.more k n)

pub invariant_of-self-2 : goal.invariant_of-self-2
invariant_of-self-2 c =
    kept-changed (at c) c.subtract_start.new.self c.set_pending.new.self c.self.invariant (pended _ (Some c.args.start)) c.set_pending.ensures.pending refl
    (λ k n. omega (arith, c.subtract_start.ensures k n, c.add.ensures.more k n, c.reserve.ensures.kept k n)) tt

pub returns-clause-answer : goal.returns-clause-answer
returns-clause-answer c = rw (← c.self.view_is) (seat-answered (at c) _ _ _ _ (pend-done (at c) (Some c.args.start)) c.set_pending.ensures.pending)

pub returns-clause-settled : goal.returns-clause-settled
returns-clause-settled c = (invariant_of-self-2 c).sound.settled
