-- What a server is asked, the core does in the world; and where a server needs no memory, its row answers as its plan says.
use Rattle.std.proofs.Common.{◌≡◌, ◌∙◌, ℕ, List, Option, Some, None, sym, refl, ap, subst}
use Rattle.std.specs.Prelude.{Result, Ok, Err}
use Rattle.hurd_machine.proofs.Common.{Change, Did, Errno, Name, NodeState, Plan, PortState, Question, Reply, Steps, World, answered, apply_all, asked_at, changes_of, edit_bytes, edit_size, edits_of, told, with_edits, world_from}
use Rattle.hurd_trans_iface.specs.Behaviour.{Effect, told_of}
use Rattle.hurd_nodes.specs.Shown.{asked_step, effect_at}
use Rattle.hurd_machine.specs.declared.call.Reply.TheVariants.{Refused}
use Rattle.hurd_machine.specs.Plan.{Follows}
use Rattle.hurd_core.specs.Core.{Does}
use Rattle.hurd_core.proofs.SettleLaws.{Alike, alike-does}
use Rattle.hurd_core.proofs.PlanLaws.{asked-done, follows-refused}

-- what a server answers of a node, and does to it, is so in the world
module _ (N : NodeState) (H : PortState) (n : Name) where
  abbrev w : World
  w = world_from N H

  abbrev did : {T : Type 0} → Did T → List Change
  did d = changes_of (edits_of n (Ok d))

  edited : (bytes : Option (List ℕ → List ℕ)) (size : Option ℕ)
      → (let es = edit_bytes n bytes (edit_size n size) in world_from (with_edits es N) H ≡ apply_all (changes_of es) w)
  edited None None = refl
  edited None (Some k) = refl
  edited (Some f) None = refl
  edited (Some f) (Some k) = refl

  asked_alike : {T : Type 0} (x : Effect T) → Alike (λ M. world_from M H) N did (λ (d : Did T). d.told) x (told_of x, with_edits (edits_of n x) N)
  asked_alike (Ok d) = (refl, edited d.bytes d.size)
  asked_alike (Err e) = (refl, refl)

  pub asked-does : {T : Type 0} (q : Question T) (r : Result T Errno) (M : NodeState) → Steps N (asked_step q n N) r M → Does w (asked_at q n w) did (λ (d : Did T). d.told) r (world_from M H)
  asked-does q r M s = alike-does (λ M. world_from M H) N did (λ d. d.told) _ _ (asked_alike (effect_at q n N)) r M s

-- a server's refusal that is told is its own
told-refused : {T : Type 0} (x : Effect T) (e : Errno) → Err e ≡ told_of x → x ≡ Err e
told-refused (Ok d) e is = absurd (cc)
told-refused (Err g) e is = cc

-- what a server refuses by itself, its plan does
pub told-follows : {T : Type 0} (w : World) (x : Effect T) (k : Did T → Plan) (changes : Did T → List Change) (e : Errno) (y : World)
    → Does w x changes (λ (d : Did T). d.told) (Err e) y → Err e ≡ told_of x → Follows w (answered x k) (Refused e) y
told-follows w x k changes e y d is = subst (λ (z : World). Follows w (answered x k) (Refused e) z) (sym d.0) (follows-refused w x k e (told-refused x e is))

-- a method of the core that answers as the server means it follows the plan
pub does-follows : {T : Type 0} (w : World) (x : Effect T) (changes : Did T → List Change) (k : Did T → Plan) (f : T → Reply) (r : Result T Errno) (y : World)
    → ((d : Did T) → (f d.told ≡ (k d).reply) × ((k d).changes ≡ changes d)) → Does w x changes (λ (d : Did T). d.told) r y → r ≡ told_of x → Follows w (answered x k) (told f r) y
does-follows w x changes k f (Ok v) y same d is =
    asked-done w x k f d.0 v y d.1 (ap f d.2 ∙ (same d.0).0) (d.3 ∙ ap (λ (cs : List Change). apply_all cs w) (sym (same d.0).1))
does-follows w x changes k f (Err e) y same d is = told-follows w x k changes e y d is
