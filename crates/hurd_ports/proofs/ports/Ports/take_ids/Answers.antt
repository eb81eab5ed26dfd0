use Rattle.std.proofs.Common.{refl, arith}
use Rattle.std.proofs.lemmas.Option.{slice_get_read}
use Rattle.hurd_ports.proofs.EditLaws.{SeatAt, kept-changed, ready-kept, seat-did, take_ids-done, taking_ids}
use Rattle.hurd_ports.proofs.ports.Ports.take_ids.Goals as goal

-- the seat that was read
at : (c : goal.After-self-1) → SeatAt c.self.inside.opens.all c.self.inside.tasks.items c.args.task.0 c.index_mut.result.now
at c = record { is = slice_get_read c.self.inside.tasks.items _ c.args.task.0 _ refl (omega (arith, c.self.inside.tasks.ok.0)) c.index_mut.ensures.value }

pub invariant_of-self : goal.invariant_of-self
invariant_of-self c =
    kept-changed (at c) c.self.inside.book c.take_ids.new.self c.self.invariant (taking_ids _ c.args.ids) c.take_ids.ensures.ids refl (λ k n. refl)
    (ready-kept (at c) c.self.inside.ready _ c.self.invariant c.take_ids.ensures.ports)

pub returns-clause-answer : goal.returns-clause-answer
returns-clause-answer c = rw (← c.self.view_is) (seat-did (at c) _ _ _ _ (take_ids-done (at c) c.args.ids) c.take_ids.ensures.ids)

pub returns-clause-settled : goal.returns-clause-settled
returns-clause-settled c = (invariant_of-self c).sound.settled
