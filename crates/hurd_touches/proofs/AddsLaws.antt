-- What is noted, one part after another.
use Rattle.std.proofs.Common.{◌≡◌, ◌⊎◌, ◌||◌, ℕ, Bool, true, false, true≢false, List, [], ◌∷◌, ◌++◌, map, refl, sym, ap, subst, inl, inr}
use Rattle.std.specs.List.{list_any}
use Rattle.hurd_machine.proofs.Common.{Call, IsAmong, Part, World}
use Rattle.hurd_sight.specs.Parts.{part_of}
use Rattle.hurd_sight.specs.declared.parts.SeenPart.{SeenPart}
use Rattle.hurd_touches.specs.declared.noted.Noted.{Noted}
use Rattle.hurd_touches.specs.declared.noted.Noted.TheVariants.{All, These}
use Rattle.hurd_touches.specs.Touched.{Adds, Notes, is_all}

among_parts : (x : SeenPart) (xs : List SeenPart) → IsAmong x xs → IsAmong (part_of x) (map part_of xs)
among_parts x [] h = absurd h
among_parts x (y ∷ xs) (inl e) = inl (ap part_of e)
among_parts x (y ∷ xs) (inr h) = inr (among_parts x xs h)

still : (p : Part) (x : SeenPart) (xs : List SeenPart) → IsAmong p (map part_of xs) → IsAmong p (map part_of (xs ++ x ∷ []))
still p x [] h = absurd h
still p x (y ∷ xs) (inl e) = inl e
still p x (y ∷ xs) (inr h) = inr (still p x xs h)

last : (x : SeenPart) (xs : List SeenPart) → IsAmong (part_of x) (map part_of (xs ++ x ∷ []))
last x [] = inl refl
last x (y ∷ xs) = inr (last x xs)

-- what passes a test that is only passed by x is x
pub among_any : {X : Type 0} (x : X) (p : X → Bool) → ((y : X) → p y ≡ true → y ≡ x) → (xs : List X) → list_any p xs ≡ true → IsAmong x xs
among_any x p same [] h = absurd (true≢false (sym h))
among_any {X} x p same (y ∷ ys) h = by (p y) refl h (among_any x p same ys)
  where
    by : (b : Bool) → p y ≡ b → (b || list_any p ys) ≡ true → (list_any p ys ≡ true → IsAmong x ys) → (y ≡ x) ⊎ IsAmong x ys
    by true e k more = inl (same y e)
    by false e k more = inr (more k)

-- a part that is there
pub adds_had : (x : SeenPart) (xs : List SeenPart) → IsAmong x xs → Adds (λ p. p ≡ part_of x) (These xs) (These xs)
adds_had x xs h = record { kept = λ p on. on; added = λ p e. subst (λ q. IsAmong q (map part_of xs)) (sym e) (among_parts x xs h) }

-- a part after the others
pub adds_last : (x : SeenPart) (xs : List SeenPart) → Adds (λ p. p ≡ part_of x) (These xs) (These (xs ++ x ∷ []))
adds_last x xs = record { kept = λ p on. still p x xs on; added = λ p e. subst (λ q. IsAmong q (map part_of (xs ++ x ∷ []))) (sym e) (last x xs) }

module _ (P : Part → Type 0) where
  -- nothing
  pub adds_none : (old : Noted) → ((p : Part) → P p → ⊥) → Adds P old old
  adds_none old none = record { kept = λ p on. on; added = λ p on. absurd (none p on) }

  -- no more than is added
  pub adds_less : (Q : Part → Type 0) (old new : Noted) → Adds Q old new → ((p : Part) → P p → Q p) → Adds P old new
  adds_less Q old new a less = record { kept = a.kept; added = λ p on. a.added p (less p on) }

-- where any part is noted, so is each call
pub all_notes : (w : World) (t : ℕ) (c : Call) (noted : Noted) → is_all noted ≡ true → Notes w t c noted noted
all_notes w t c All is = record { kept = λ p on. on; caller = tt; touched = λ p on. tt }
all_notes w t c (These parts) is = absurd (true≢false (sym is))
