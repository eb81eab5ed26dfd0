use Rattle.std.proofs.Common.{◌∙◌, rules}
use Rattle.std.proofs.lemmas.List.Sorted.{answers_always}
use Rattle.hurd_ports.proofs.SearchLaws.{searched}
use Rattle.hurd_ports.proofs.table.TaskSeat.place.Goals as goal

pub returns-clause-is : goal.returns-clause-is
returns-clause-is c =
    let facts = rw c.deref.ensures.value at c.binary_search_by_key.ensures in
    let by_number = facts.position (λ p. p.number) (answers_always _ _ _ (λ f a r g called. search rules)) in
    c.ok.ensures.value ∙ searched c.args.number c.args.self.now.ports.items c.requires _ facts.bound by_number
