-- Ids that are added to a set, one after another.
use Rattle.std.proofs.Common.{◌≡◌, ◌∙◌, ℕ, ◌+◌, ◌<◌, ◌||◌, Bool, true, false, List, [], ◌∷◌, ◌++◌, if◌then◌else◌, take, length, get_or, refl, sym, ap, ap₂, arith}
use Rattle.std.proofs.lemmas.Bool.Decides.{nat_tests}
use Rattle.std.proofs.lemmas.List.Folds.{list_any-append, list_any_more}
use Rattle.std.specs.Prelude.{nat_eq}
use Rattle.hurd_machine.proofs.Common.{is_among, list_any}
use Rattle.indexmap.specs.IndexSet.{insert_key}
use Rattle.std.proofs.Math.Bool.{or-false, or_assoc}

-- an id that is equal to one of a list is among these
among_equal : (x : ℕ) (ks : List ℕ) → list_any (nat_eq x) ks ≡ is_among ks x
among_equal x [] = refl
among_equal x (y ∷ ks) = ap₂ (λ (a b : Bool). a || b) (swapped x y) (among_equal x ks)
  where
    swapped : (a b : ℕ) → nat_eq a b ≡ nat_eq b a
    swapped a b = grind (arith, nat_tests)

among_inserted : (ks : List ℕ) (x id : ℕ) → is_among (insert_key nat_eq ks x) id ≡ (is_among ks id || nat_eq x id)
among_inserted ks x id = go (list_any (nat_eq x) ks) refl (nat_eq x id) refl
  where
    go : (there : Bool) → list_any (nat_eq x) ks ≡ there → (same : Bool) → nat_eq x id ≡ same → is_among (if there then ks else ks ++ x ∷ []) id ≡ (is_among ks id || same)
    go true e false f = sym (or-false (is_among ks id))
    go true e true f =
        let one : x ≡ id = grind (arith, nat_tests) in
        let has : is_among ks id ≡ true = ap (is_among ks) (sym one) ∙ sym (among_equal x ks) ∙ e in
        rw has refl
    go false e b f = list_any-append (λ y. nat_eq y id) ks (x ∷ []) ∙ ap (λ (d : Bool). is_among ks id || d) (or-false (nat_eq x id) ∙ f)

-- with the next id of a list, what was there and the ids before it
pub gathered_next : (old ks ids new : List ℕ) (i : ℕ) → i < length ids → ((id : ℕ) → is_among ks id ≡ (is_among old id || is_among (take i ids) id))
    → new ≡ insert_key nat_eq ks (get_or ids i 0) → (id : ℕ) → is_among new id ≡ (is_among old id || is_among (take (i + 1) ids) id)
gathered_next old ks ids new i below before is id =
    ap (λ (l : List ℕ). is_among l id) is
    ∙ among_inserted ks (get_or ids i 0) id
    ∙ ap (λ (b : Bool). b || nat_eq (get_or ids i 0) id) (before id)
    ∙ or_assoc (is_among old id) (is_among (take i ids) id) (nat_eq (get_or ids i 0) id)
    ∙ ap (λ (b : Bool). is_among old id || b) (sym (list_any_more (λ y. nat_eq y id) ids i 0 below))
