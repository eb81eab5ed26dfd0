-- Tasks by number: what is at a place, and after a change of one.
use Rattle.std.proofs.Common.{◌≡◌, ◌⊎◌, inl, inr, ℕ, zero, suc, List, [], ◌∷◌, length, map, refl, ap, sym, ◌∙◌, arith}
use Rattle.std.proofs.lemmas.List.{length-set, set-set}
use Rattle.std.specs.Prelude.{Option, Some, None, slice_get, slice_set}
use Rattle.std.specs.Option.{option_map}
use Rattle.hurd_ports.specs.Tables.{Task}
use Rattle.hurd_ports.specs.Steps.{edit_at, edit_task}

-- two numbers are one or they aren't
pub one_or_other : (q i : ℕ) → (q ≡ i) ⊎ (q ≡ i → ⊥)
one_or_other zero zero = inl refl
one_or_other zero (suc i) = inr (λ e. omega arith)
one_or_other (suc q) zero = inr (λ e. omega arith)
one_or_other (suc q) (suc i) = elim (one_or_other q i) [
  | inl e ↦ inl (ap suc e)
  | inr apart ↦ inr (λ e. apart (omega arith))
]

module _ {A : Type 0} where
  pub set-here : (xs : List A) (i : ℕ) (x y : A) → slice_get xs i ≡ Some x → slice_get (slice_set xs i y) i ≡ Some y
  set-here [] i x y h = absurd (cc)
  set-here (z ∷ xs) zero x y h = refl
  set-here (z ∷ xs) (suc i) x y h = set-here xs i x y h

  pub set-apart : (xs : List A) (i : ℕ) (y : A) (q : ℕ) → (q ≡ i → ⊥) → slice_get (slice_set xs i y) q ≡ slice_get xs q
  set-apart [] i y q apart = refl
  set-apart (z ∷ xs) zero y zero apart = absurd (apart refl)
  set-apart (z ∷ xs) zero y (suc q) apart = refl
  set-apart (z ∷ xs) (suc i) y zero apart = refl
  set-apart (z ∷ xs) (suc i) y (suc q) apart = set-apart xs i y q (λ e. apart (ap suc e))

  pub set-same : (xs : List A) (i : ℕ) (x : A) → slice_get xs i ≡ Some x → slice_set xs i x ≡ xs
  set-same [] i x h = refl
  set-same (y ∷ xs) zero x h = let e : y ≡ x = cc in ap (λ (z : A). z ∷ xs) (sym e)
  set-same (y ∷ xs) (suc i) x h = ap (λ (r : List A). y ∷ r) (set-same xs i x h)

  -- what is at a place after a change of one
  pub set-cases : (xs : List A) (i : ℕ) (x y : A) (q : ℕ) (z : A) → slice_get xs i ≡ Some x → slice_get (slice_set xs i y) q ≡ Some z → ((q ≡ i) × (z ≡ y)) ⊎ (slice_get xs q ≡ Some z)
  set-cases xs i x y q z at is = elim (one_or_other q i) [
    | inl e ↦ inl (e, let here = set-here xs i x y at in let there : slice_get (slice_set xs i y) i ≡ Some z = ap (slice_get (slice_set xs i y)) (sym e) ∙ is in cc)
    | inr apart ↦ inr (sym (set-apart xs i y q apart) ∙ is)
  ]

-- the element of a mapped list comes from one of the list
pub map-origin : {A B : Type 0} (f : A → B) (xs : List A) (i : ℕ) (y : B) → slice_get (map f xs) i ≡ Some y → (x : A) × (slice_get xs i ≡ Some x) × (f x ≡ y)
map-origin f [] i y h = absurd (cc)
map-origin f (x ∷ xs) zero y h = (x, refl, cc)
map-origin f (x ∷ xs) (suc i) y h = map-origin f xs i y h

-- a task that is changed

module _ (q : ℕ) (f : Task → Task) (ts : List Task) where
  -- to change a task that is there is to set what it becomes in its place
  pub edit-found : (x : Task) → slice_get ts q ≡ Some x → edit_task q f ts ≡ slice_set ts q (f x)
  edit-found x at = ap (edit_at q f ts) at

  pub edit-here : slice_get (edit_task q f ts) q ≡ option_map f (slice_get ts q)
  edit-here = go (slice_get ts q) refl
    where
      go : (o : Option Task) → slice_get ts q ≡ o → slice_get (edit_at q f ts o) q ≡ option_map f o
      go None e = e
      go (Some x) e = set-here ts q x (f x) e

  pub edit-apart : (i : ℕ) → (i ≡ q → ⊥) → slice_get (edit_task q f ts) i ≡ slice_get ts i
  edit-apart i apart = go (slice_get ts q)
    where
      go : (o : Option Task) → slice_get (edit_at q f ts o) i ≡ slice_get ts i
      go None = refl
      go (Some x) = set-apart ts q (f x) i apart

  pub edit-length : length (edit_task q f ts) ≡ length ts
  edit-length = go (slice_get ts q)
    where
      go : (o : Option Task) → length (edit_at q f ts o) ≡ length ts
      go None = refl
      go (Some x) = length-set ts q (f x)

-- one change after another of a task that is there
pub edit-edit : (q : ℕ) (f g : Task → Task) (ts : List Task) (x : Task) → slice_get ts q ≡ Some x → edit_task q f (edit_task q g ts) ≡ slice_set ts q (f (g x))
edit-edit q f g ts x at =
    ap (edit_task q f) (edit-found q g ts x at) ∙ edit-found q f (slice_set ts q (g x)) (g x) (set-here ts q x (g x) at) ∙ set-set ts q (g x) (f (g x))
