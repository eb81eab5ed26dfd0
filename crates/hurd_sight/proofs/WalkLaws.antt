-- A walk over a list, one thing after another: what holds of how it was before some of them and is after them.
use Rattle.std.proofs.Common.{◌≡◌, ◌∙◌, sym, ap, subst, ℕ, ◌+◌, ◌<◌, ◌≤◌, List, [], ◌∷◌, ◌++◌, take, take_all, length, get_or, append-nil}
use Rattle.std.specs.List.{flat_map}
use Rattle.std.proofs.lemmas.List.{take_more}
use Rattle.std.proofs.lemmas.List.Concat.{flat_map-append}

-- what holds after some things, and of one step, holds after one thing more
pub record Walk {X A : Type 0} (Over : List X → A → A → Type 0) (Step : X → A → A → Type 0) : Type 0 where
  pub more : (xs : List X) (x : X) (a b c : A) → Over xs a b → Step x b c → Over (xs ++ x ∷ []) a c

module _ {X A : Type 0} {Over : List X → A → A → Type 0} {Step : X → A → A → Type 0} (walk : Walk Over Step) (xs : List X) (i : ℕ) where
  -- one more of a list
  pub walk_next : (d : X) (a b c : A) → i < length xs → Over (take i xs) a b → Step (get_or xs i d) b c → Over (take (i + 1) xs) a c
  walk_next d a b c below before step = subst (λ (ys : List X). Over ys a c) (sym (take_more xs i d below)) (walk.more (take i xs) (get_or xs i d) a b c before step)

  -- the same where the one at the index is known by another name
  pub walk_item : (x : X) (a b c : A) → i < length xs → x ≡ get_or xs i x → Over (take i xs) a b → Step x b c → Over (take (i + 1) xs) a c
  walk_item x a b c below at before step = walk_next x a b c below before (subst (λ (z : X). Step z b c) at step)

  -- and the whole list
  pub walk_all : (a b : A) → length xs ≤ i → Over (take i xs) a b → Over xs a b
  walk_all a b past before = subst (λ (ys : List X). Over ys a b) (take_all i xs past) before

-- what is added one after another, of what each of a list shows
pub each : {X Y A : Type 0} (add : List Y → A → A) → ((ys zs : List Y) (a : A) → add (ys ++ zs) a ≡ add zs (add ys a)) → (f : X → List Y)
    → Walk (λ (xs : List X) (a b : A). b ≡ add (flat_map f xs) a) (λ (x : X) (b c : A). c ≡ add (f x) b)
each {X} {Y} {A} add joins f = record {
  more = λ xs x a b c before step.
      step
      ∙ (ap (add (f x)) before
      ∙ sym (ap (λ (ys : List Y). add ys a) (flat_map-append f xs (x ∷ []) ∙ ap (λ (ys : List Y). flat_map f xs ++ ys) (append-nil (f x))) ∙ joins (flat_map f xs) (f x) a));
}
