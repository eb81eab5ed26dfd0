-- The place of a port by its number.
use Rattle.std.proofs.Common.{◌≡◌, ◌⊎◌, inl, inr, ℕ, suc, ◌+◌, ◌==◌, Bool, true, false, cond, List, [], ◌∷◌, length, get_or, refl, ap, sym, ◌∙◌, arith}
use Rattle.std.proofs.lemmas.Bool.Decides.{nat_tests}
use Rattle.std.specs.Prelude.{Option, Some, None, not, nat_lt}
use Rattle.std.specs.Option.{option_map}
use Rattle.std.specs.List.{remove, position, position_or_len}
use Rattle.hurd_ports.specs.declared.table.Port.{Port}
use Rattle.hurd_ports.specs.Tables.{right_in}
use Rattle.hurd_ports.specs.Steps.{ports_without}

pub same_test : (a : ℕ) → (a == a) ≡ true
same_test a = grind (arith, nat_tests)

pub apart_test : (a b : ℕ) → (a ≡ b → ⊥) → (a == b) ≡ false
apart_test a b h = grind (arith, nat_tests)

module _ {X : Type 0} (is : X → Bool) where
  -- the first of a list passes, or it is looked for in the rest
  pub position-cons : (x : X) (xs : List X) → position is (x ∷ xs) ≡ cond (is x) (Some 0) (option_map (λ i. i + 1) (position is xs))
  position-cons x xs = go (is x) (position_or_len is xs) (length xs)
    where
      shifted : (b : Bool) (n : ℕ) → cond b (Some (1 + n)) None ≡ option_map (λ i. i + 1) (cond b (Some n) None)
      shifted true n = let e : 1 + n ≡ n + 1 = omega arith in ap Some e
      shifted false n = refl

      below : (n len : ℕ) → nat_lt (1 + n) (suc len) ≡ nat_lt n len
      below n len = grind (arith, nat_tests)

      first : (len : ℕ) → nat_lt 0 (suc len) ≡ true
      first len = grind (arith, nat_tests)

      go : (b : Bool) (n len : ℕ) → cond (nat_lt (cond (not b) (1 + n) 0) (suc len)) (Some (cond (not b) (1 + n) 0)) None ≡ cond b (Some 0) (option_map (λ i. i + 1) (cond (nat_lt n len) (Some n) None))
      go true n len = ap (λ b. cond b (Some 0) None) (first len)
      go false n len = ap (λ b. cond b (Some (1 + n)) None) (below n len) ∙ shifted (nat_lt n len) n

  -- so much is known of the place that is found
  a_place : (b : Bool) (o : Option ℕ) (i : ℕ) → cond b (Some 0) (option_map (λ j. j + 1) o) ≡ Some i → ((b ≡ true) × (i ≡ 0)) ⊎ ((b ≡ false) × (j : ℕ) × (o ≡ Some j) × (i ≡ suc j))
  a_place true o i h = inl (refl, cc)
  a_place false None i h = absurd (cc)
  a_place false (Some j) i h = let e : j + 1 ≡ i = cc in inr (refl, j, refl, omega arith)

  no_place : (b : Bool) (o : Option ℕ) → cond b (Some 0) (option_map (λ i. i + 1) o) ≡ None → (b ≡ false) × (o ≡ None)
  no_place true o h = absurd (cc)
  no_place false None h = (refl, refl)
  no_place false (Some i) h = absurd (cc)

  pub position-cases : (x : X) (xs : List X) (i : ℕ) → position is (x ∷ xs) ≡ Some i → ((is x ≡ true) × (i ≡ 0)) ⊎ ((is x ≡ false) × (j : ℕ) × (position is xs ≡ Some j) × (i ≡ suc j))
  position-cases x xs i h = a_place (is x) (position is xs) i (sym (position-cons x xs) ∙ h)

  pub position-none : (x : X) (xs : List X) → position is (x ∷ xs) ≡ None → (is x ≡ false) × (position is xs ≡ None)
  position-none x xs h = no_place (is x) (position is xs) (sym (position-cons x xs) ∙ h)

abbrev pub numbered_so : ℕ → Port → Bool
numbered_so p x = p == x.number

-- the right at the place of its number
pub right-placed : (p : ℕ) (ps : List Port) (i : ℕ) → position (numbered_so p) ps ≡ Some i → (d : Port) → right_in p ps ≡ Some (get_or ps i d).right
right-placed p [] i h d = absurd (cc)
right-placed p (x ∷ ps) i h d = elim (position-cases (numbered_so p) x ps i h) [
  | inl (t, e) ↦ rw (t, e) refl
  | inr (f, j, is, e) ↦ rw (f, e) (right-placed p ps j is d)
]

pub right-absent : (p : ℕ) (ps : List Port) → position (numbered_so p) ps ≡ None → right_in p ps ≡ None
right-absent p [] h = refl
right-absent p (x ∷ ps) h =
    let both = position-none (numbered_so p) x ps h in
    rw both.0 (right-absent p ps both.1)

-- out goes the port at the place of its number
pub without-placed : (p : ℕ) (ps : List Port) (i : ℕ) → position (numbered_so p) ps ≡ Some i → remove ps i ≡ ports_without p ps
without-placed p [] i h = absurd (cc)
without-placed p (x ∷ ps) i h = elim (position-cases (numbered_so p) x ps i h) [
  | inl (t, e) ↦ rw (t, e) refl
  | inr (f, j, is, e) ↦ rw (f, e) (ap (λ (r : List Port). x ∷ r) (without-placed p ps j is))
]
