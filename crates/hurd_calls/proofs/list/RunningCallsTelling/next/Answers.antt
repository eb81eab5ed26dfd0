use Rattle.std.proofs.Common.{◌≡◌, ◌∙◌, refl, subst, sym}
use Rattle.std.proofs.lemmas.List.{nil_from_length}
use Rattle.hurd_kinds.specs.Boxes.{box_meaning}
use Rattle.hurd_lists.specs.Lists.{listed_by}
use Rattle.hurd_world.specs.Held.{world_of}
use Rattle.hurd_calls.specs.Making.{after_call, answer_to}
use Rattle.hurd_calls.proofs.WayLaws.{call_goes, none_goes}
use Rattle.hurd_calls.proofs.list.RunningCallsTelling.next.Goals as goal

pub returns-in_default-clause-goes : goal.returns-in_default-clause-goes
returns-in_default-clause-goes c =
    let none = nil_from_length _ (sym c.args.self.now.calls.ok.0 ∙ c.in_default.ensures.cases.0) in
    let rest = nil_from_length _ (sym c.pop_front.new.self.ok.0 ∙ c.in_default.ensures.cases.1) in
    none_goes c.args.self.now.world.value c.args.self.now.calls.items c.pop_front.new.self.items c.args.self.now.told c.args.self.now.tasks none (rest ∙ sym none)

pub returns-clause-goes : goal.returns-clause-goes
returns-clause-goes c =
    call_goes c.args.self.now.world.value c.answer.new.world c.in-Some.listed _ c.pop_front.new.self.items c.args.self.now.told _ c.args.self.now.tasks c.in_ok-answer.field-0 c.in-Some.ensures.items refl
    (subst (λ w. c.in_ok-answer.field-0 ≡ answer_to (listed_by box_meaning c.in-Some.listed) (world_of box_meaning w)) c.deref_mut.ensures.value c.in_ok-answer.ensures.answer)
    (subst (λ w. world_of box_meaning c.answer.new.world ≡ after_call (listed_by box_meaning c.in-Some.listed) (world_of box_meaning w)) c.deref_mut.ensures.value c.in_ok-answer.ensures.world)

pub returns-clause-noted : goal.returns-clause-noted
returns-clause-noted c = rw c.deref_mut.ensures.value at c.in_ok-answer.ensures.noted
