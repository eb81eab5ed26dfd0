-- What goes by a call whose changes settle at their end alone: afterwards nobody sees it.
use Rattle.std.proofs.Common.{◌≡◌, ◌⊎◌, ◌∙◌, ℕ, Bool, true, List, [], ◌∷◌, Option, Some, None, refl, sym, subst, inl, inr}
use Rattle.std.specs.Option.{option_map}
use Rattle.hurd_machine.proofs.Common.{AttrOf, BodyOf, Change, Coherent, EmptyOf, EndsOf, IsGone, Linked, OpenOf, OptionsOf, Part, ServerInfo, Settle, TaskOf, TextOf, TotalOf, UsersOf, World, apply, apply_all, body_at, ends_at, faced, header_at, is_empty_dir, part, server_at, site_at, total_at}
use Rattle.hurd_machine.specs.World.{nodes_of}
use Rattle.hurd_machine.specs.Change.{settle}
use Rattle.hurd_machine.proofs.Coherence.{AllProper}
use Rattle.hurd_machine.proofs.Keeping.{coherent_one}
use Rattle.hurd_machine.proofs.Frame.{AllWithin, frame, gone_kept}
use Rattle.hurd_machine.proofs.Settle.{settle_part, settle_agrees}
use Rattle.hurd_machine.proofs.Views.{Sees-back}
use Rattle.hurd_laws.specs.Integrity.{IsLost}
use Rattle.hurd_laws.proofs.Reasons.{AllReasoned}

abbrev pub Stays : World → World → Part → Type 0
Stays w x p = (part x p ≡ part w p) ⊎ IsLost x p

abbrev IsOrNot : Type 0 → Type 0
IsOrNot A = A ⊎ (A → ⊥)

none_or : {A : Type 0} (o : Option A) → IsOrNot (o ≡ None)
none_or None = inl refl
none_or (Some a) = inr (λ e. absurd (cc (e)))

both_or : {A B C : Type 0} → (A → B → C) → (C → A) → (C → B) → IsOrNot A → IsOrNot B → IsOrNot C
both_or f g h (inl a) (inl b) = inl (f a b)
both_or f g h (inl a) (inr b) = inr (λ c. b (h c))
both_or f g h (inr a) b = inr (λ c. a (g c))

one_or : {A C : Type 0} → (A → C) → (C → A) → IsOrNot A → IsOrNot C
one_or f g (inl a) = inl (f a)
one_or f g (inr a) = inr (λ c. a (g c))

gone_or : (w : World) (p : Part) → IsOrNot (IsGone w p)
gone_or w (AttrOf n) = both_or (λ a b. cc (a, b)) (λ c. cc (c)) (λ c. cc (c)) (none_or (header_at w n)) (none_or (site_at w n))
gone_or w (EmptyOf n) = one_or (λ a. cc (a)) (λ c. cc (c)) (none_or (option_map is_empty_dir (body_at w n)))
gone_or w (BodyOf n) = one_or (λ a. cc (a)) (λ c. cc (c)) (none_or (body_at w n))
gone_or w (EndsOf n) = one_or (λ a. cc (a)) (λ c. cc (c)) (none_or (ends_at w n))
gone_or w (OptionsOf s) = one_or (λ a. cc (a)) (λ c. cc (c)) (none_or (option_map faced (server_at w s)))
gone_or w (TextOf s) = one_or (λ a. cc (a)) (λ c. cc (c)) (none_or (option_map (λ (i : ServerInfo). i.text) (server_at w s)))
gone_or w (TotalOf s) = one_or (λ a. cc (a)) (λ c. cc (c)) (none_or (total_at w s))
gone_or w p = inr (λ c. c)

gone_same : (w x : World) (p : Part) → IsGone w p → IsGone x p → part x p ≡ part w p
gone_same w x (OpenOf o) a b = absurd a
gone_same w x (UsersOf s) a b = absurd a
gone_same w x (TaskOf t) a b = absurd a
gone_same w x p a b = b ∙ sym a

module _ (w : World) (p : Part) (T : Part → Type 0) (out : T p → ⊥) where
  settled : (x : World) → Coherent x → Linked (nodes_of x) → part x p ≡ part w p → Stays w (settle x) p
  settled x c l e = elim (settle_part w p x c l (inl e)) [
    | inl same ↦ inl same
    | inr gone ↦ elim (gone_or w p) [
      | inl was ↦ inl (gone_same w (settle x) p was gone)
      | inr stood ↦ inr (
        gone,
        λ S sees.
            let a = settle_agrees S x c l in
            let same : part (settle x) p ≡ part x p = a.parts p (Sees-back a p sees) in
            stood (gone_kept (settle x) w p (sym (same ∙ e)) gone),
      )
    ]
  ]

  -- a part that none of the changes writes, along them
  along : (S : ℕ → Bool) (cs : List Change) → AllReasoned true S w cs → (x : World) → Coherent x → AllProper x cs → AllWithin T x cs → part x p ≡ part w p → Stays w (apply_all cs x) p
  along S [] r x c pr i e = inl e
  along S (Settle ∷ ds) r x c pr i e = subst (λ es. Stays w (apply_all es (settle x)) p) (sym r.1) (settled x c pr.0 e)
  along S (k ∷ ds) r x c pr i e =
      let next : Coherent (apply k x) = coherent_one k x c pr.0 in
      along S ds r.1 (apply k x) next (pr.1 next) i.1 (frame T x c k tt pr.0 p i.0 out ∙ e)

  pub ends_stays : (S : ℕ → Bool) (cs : List Change) → AllReasoned true S w cs → Coherent w → AllProper w cs → AllWithin T w cs → Stays w (apply_all cs w) p
  ends_stays S cs r c pr i = along S cs r w c pr i refl
