use Rattle.std.proofs.Common.{None, refl, arith}
use Rattle.std.proofs.lemmas.Option.{slice_get_read}
use Rattle.hurd_ports.proofs.EditLaws.{SeatAt, kept-changed, pend-done, pended, seat-did}
use Rattle.hurd_ports.proofs.CountLaws.{start-counted}
use Rattle.hurd_ports.proofs.ports.Ports.unpend.Goals as goal

-- the seat that was read
at : (c : goal.After-self-2-1) → SeatAt c.self.inside.opens.all c.self.inside.tasks.items c.args.task.0 c.index_mut-seat.result.now
at c = record { is = slice_get_read c.self.inside.tasks.items _ c.args.task.0 _ refl (omega (arith, c.self.inside.tasks.ok.0)) c.index_mut-seat.ensures.value }

pub subtract_start-requires : goal.subtract_start-requires
subtract_start-requires c =
    start-counted _ c.self.inside.tasks.items c.args.task.0 c.index_mut-seat.result.now (slice_get_read c.self.inside.tasks.items _ c.args.task.0 _ refl (omega (arith, c.self.inside.tasks.ok.0)) c.index_mut-seat.ensures.value) c.self.invariant.counted

pub invariant_of-self : goal.invariant_of-self
invariant_of-self c =
    kept-changed (at c) c.subtract_start.new.self c.set_pending.new.self c.self.invariant (pended _ None) c.set_pending.ensures.pending refl (λ k n. let less = c.subtract_start.ensures k n in omega arith) tt

pub returns-clause-answer : goal.returns-clause-answer
returns-clause-answer c = rw (← c.self.view_is) (seat-did (at c) _ _ _ _ (pend-done (at c) None) c.set_pending.ensures.pending)

pub returns-clause-settled : goal.returns-clause-settled
returns-clause-settled c = (invariant_of-self c).sound.settled
