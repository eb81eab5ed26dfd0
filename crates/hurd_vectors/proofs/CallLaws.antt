-- The vector of a call, and those of the calls after it.
use Rattle.std.proofs.Common.{◌≡◌, ◌∙◌, ap, refl, sym, false, ℕ, List, [], ◌∷◌, Option, map}
use Rattle.std.specs.Option.{option_map}
use Rattle.hurd_trans_iface.specs.Meaning.{Meaning}
use Rattle.hurd_machine.specs.declared.call.Call as call
use Rattle.hurd_machine.specs.declared.call.Reply as reply
use Rattle.hurd_machine.specs.Calls.{call_by, lacks_memory, reply_by}
use Rattle.hurd_machine.specs.World.{World}
use Rattle.hurd_kinds.specs.Boxes.{box_meaning}
use Rattle.hurd_kinds.specs.declared.server_box.ServerBox.{ServerBox}
use Rattle.hurd_laws.specs.Called.{Called}
use Rattle.hurd_lists.specs.Calls.{begun, with_server}
use Rattle.hurd_lists.specs.Lists.{Listed, listed_by}
use Rattle.hurd_lists.specs.declared.reader.ListedCall.{ListedCall}
use Rattle.hurd_world.specs.Held.{Whole, world_of}
use Rattle.hurd_calls.specs.Making.{after_call}
use Rattle.hurd_calls.proofs.CallingLaws.{right}
use Rattle.hurd_vectors.specs.Lines.{vector_of}
use Rattle.hurd_vectors.specs.Vectors.{vector_in, vectors_from}

-- a call that is told what the machine says has its vector
pub vector_right : {S : Type 0} (f : S → Meaning) (listed : ListedCall S) (server : Option S) (made : begun listed.server ≡ option_map f server) (d : call.Call S) (is : d ≡ with_server server listed.call)
    (w : World) (r : reply.Reply S) (x : World) (called : Called w listed.task.0 (call_by f d) (reply_by f r) x) (has : lacks_memory r ≡ false) (line vector : List ℕ)
    → line ≡ listed.line → vector ≡ vector_of line (reply_by f r) → vector ≡ vector_in (listed_by f listed) w
vector_right f listed server made d is w r x called has line vector here e =
    e ∙ (ap (λ (bs : List ℕ). vector_of bs (reply_by f r)) here ∙ ap (vector_of listed.line) (right f listed server made d is w r x called has).0)

no_vectors : (w : World) → vectors_from [] w ≡ []
unfolding vectors_from
no_vectors w = refl

more_vectors : (c : Listed) (cs : List Listed) (w : World) → vectors_from (c ∷ cs) w ≡ vector_in c w ∷ vectors_from cs (after_call c w)
unfolding vectors_from
more_vectors c cs w = refl

-- no call is left
pub none_left : (w : Whole ServerBox) (calls : List (ListedCall ServerBox)) → calls ≡ [] → vectors_from (map (listed_by box_meaning) calls) (world_of box_meaning w) ≡ []
none_left w calls none = ap (λ (cs : List (ListedCall ServerBox)). vectors_from (map (listed_by box_meaning) cs) (world_of box_meaning w)) none ∙ no_vectors (world_of box_meaning w)

-- the next call was made
pub call_made : (w x : Whole ServerBox) (c : ListedCall ServerBox) (calls rest : List (ListedCall ServerBox)) (vector : List ℕ) → calls ≡ c ∷ rest
    → vector ≡ vector_in (listed_by box_meaning c) (world_of box_meaning w) → world_of box_meaning x ≡ after_call (listed_by box_meaning c) (world_of box_meaning w)
    → vectors_from (map (listed_by box_meaning) calls) (world_of box_meaning w) ≡ vector ∷ vectors_from (map (listed_by box_meaning) rest) (world_of box_meaning x)
call_made w x c calls rest vector is text next =
    let left = map (listed_by box_meaning) rest in
    ap (λ (cs : List (ListedCall ServerBox)). vectors_from (map (listed_by box_meaning) cs) (world_of box_meaning w)) is
    ∙ (more_vectors (listed_by box_meaning c) left (world_of box_meaning w)
    ∙ (ap (λ (v : List ℕ). v ∷ vectors_from left (after_call (listed_by box_meaning c) (world_of box_meaning w))) (sym text)
    ∙ ap (λ (y : World). vector ∷ vectors_from left y) (sym next)))
