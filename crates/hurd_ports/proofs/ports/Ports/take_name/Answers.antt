use Rattle.std.proofs.Common.{◌<◌, Some, refl, ap, sym, ◌∙◌}
use Rattle.std.specs.Option.{option_map}
use Rattle.hurd_ports.specs.Tables.{fresh, u64_greatest}
use Rattle.hurd_ports.proofs.SeatLaws.{seat-found}
use Rattle.hurd_ports.proofs.EditLaws.{SeatAt, kept-changed, naming_more, ready-kept, seat-named, there}
use Rattle.hurd_ports.proofs.ports.Ports.take_name.Goals as goal

-- the seat that was read
at : (c : goal.After-self-1) → SeatAt c.self.inside.opens.all c.self.inside.tasks.items c.args.task.0 c.index_mut.result.now
at c = record { is = seat-found c.self.inside.tasks.items c.args.task.0 _ (λ x. x.made < u64_greatest) (rw (← c.self.view_is) at c.requires) c.index_mut.ensures.value }

pub invariant_of-self : goal.invariant_of-self
invariant_of-self c =
    kept-changed (at c) c.self.inside.book c.take_name.new.self c.self.invariant (naming_more _) c.take_name.ensures.named refl (λ k n. refl)
    (ready-kept (at c) c.self.inside.ready _ c.self.invariant c.take_name.ensures.ports)

pub returns-clause-name : goal.returns-clause-name
returns-clause-name c = rw (← c.self.view_is) (ap Some c.take_name.ensures.name ∙ sym (ap (option_map (fresh c.args.task.0)) (there (at c))))

pub returns-clause-named : goal.returns-clause-named
returns-clause-named c = rw (← c.self.view_is) (seat-named (at c) _ c.take_name.ensures.named)
