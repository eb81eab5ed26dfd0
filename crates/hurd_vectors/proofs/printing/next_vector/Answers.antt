use Rattle.std.proofs.Common.{◌≡◌, ◌∙◌, subst, sym}
use Rattle.std.proofs.lemmas.List.{nil_from_length}
use Rattle.hurd_kinds.specs.Boxes.{box_meaning}
use Rattle.hurd_lists.specs.Lists.{listed_by}
use Rattle.hurd_world.specs.Held.{world_of}
use Rattle.hurd_calls.specs.Making.{after_call}
use Rattle.hurd_vectors.specs.Vectors.{vector_in}
use Rattle.hurd_vectors.proofs.CallLaws.{call_made, none_left}
use Rattle.hurd_vectors.proofs.printing.next_vector.Goals as goal

pub returns-in_default : goal.returns-in_default
returns-in_default c = none_left c.args.calls.now.world.value c.args.calls.now.calls.items (nil_from_length _ (sym c.args.calls.now.calls.ok.0 ∙ c.in_default.ensures.cases.0))

pub returns : goal.returns
returns c =
    call_made c.args.calls.now.world.value c.vector.new.world c.in-Some.listed _ c.pop_front.new.self.items c.in_ok-vector.field-0.items c.in-Some.ensures.items
    (subst (λ w. c.in_ok-vector.field-0.items ≡ vector_in (listed_by box_meaning c.in-Some.listed) (world_of box_meaning w)) c.deref_mut.ensures.value c.in_ok-vector.ensures.vector)
    (subst (λ w. world_of box_meaning c.vector.new.world ≡ after_call (listed_by box_meaning c.in-Some.listed) (world_of box_meaning w)) c.deref_mut.ensures.value c.in_ok-vector.ensures.world)
