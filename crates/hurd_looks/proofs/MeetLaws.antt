-- Pairs that come of one test after another.
use Rattle.std.proofs.Common.{◌≡◌, ◌∙◌, ◌+◌, ◌<◌, ◌≤◌, ℕ, zero, suc, Bool, true, false, true≢false, List, [], ◌∷◌, ◌++◌, map, length, Option, Some, None, Result, Ok, Err, refl, sym, ap, ap₂, subst, arith}
use Rattle.std.specs.Prelude.{◌↔◌, ◌||◌, IfOk, IsTrue, slice_get, slice_index_or, cond}
use Rattle.std.specs.Map.{lookup}
use Rattle.std.specs.Option.{option_map}
use Rattle.hurd_creds.proofs.NameLaws.{equal_if_same, same_name-itself}
use Rattle.hurd_machine.proofs.Common.{Name, same_name}
use Rattle.hurd_machine.specs.Renamed.{OtherNames}
use Rattle.hurd_sight.specs.Parts.{is_in}
use Rattle.hurd_looks.specs.Pairings.{Agrees, PairUp, Pairing}
unfoldable use Rattle.hurd_looks.specs.Pairings.{PairsFor}

-- what holds of each answer that is not ENOMEM
pub ok_then : {A E : Type 0} (P Q : A → Type 0) → ((x : A) → P x → Q x) → (r : Result A E) → IfOk r P → IfOk r Q
ok_then P Q then (Ok x) h = then x h
ok_then P Q then (Err e) h = h

-- what is at a place
pub got_at : {A : Type 0} (xs : List A) (i : ℕ) (x : A) → i < length xs → x ≡ slice_index_or xs i x → slice_get xs i ≡ Some x
got_at [] i x within is = absurd (omega (arith, within))
got_at (y ∷ xs) zero x within is = ap (λ (z : _). Some z) (sym is)
got_at (y ∷ xs) (suc i) x within is = got_at xs i x (omega (arith, within)) is

-- a test that decides

pub said_yes : {b : Bool} {P : Type 0} → IsTrue b ↔ P → b ≡ true → P
said_yes says is = says.0 is

pub said_no : {b : Bool} {P : Type 0} → IsTrue b ↔ P → b ≡ false → P → ⊥
said_no says is holds = true≢false (sym (says.1 holds) ∙ is)

-- tests

module _ (P Q : (Name → Name) → Type 0) where
  -- one that says the same
  pub pairs_as : ((g : Name → Name) → P g ↔ Q g) → (old : Pairing) (met : Bool) (new : Pairing) → PairsFor P old met new → PairsFor Q old met new
  unfolding PairsFor
  pairs_as same old true new h = λ f raises. let k = h f raises in (λ x. ((k.0 x).0, (same f.to).0 (k.0 x).1), λ y. k.1 (y.0, (same f.to).1 y.1))
  pairs_as same old false new h = λ f raises before holds. h f raises before ((same f.to).1 holds)

  -- one that must hold doesn't
  pub pairs_no : ((g : Name → Name) → Q g → P g) → (old : Pairing) (met : Bool) (new : Pairing) → met ≡ false → PairsFor P old met new → PairsFor Q old false new
  unfolding PairsFor
  pairs_no part old true new is h = absurd (true≢false is)
  pairs_no part old false new is h = λ f raises before holds. h f raises before (part f.to holds)

  -- two, one after the other
  pub pairs_both : (old : Pairing) (met : Bool) (mid : Pairing) (next : Bool) (new : Pairing) → met ≡ true → PairsFor P old met mid → PairsFor Q mid next new → PairsFor (λ g. P g × Q g) old next new
  unfolding PairsFor
  pairs_both old false mid next new is h k = absurd (true≢false (sym is))
  pairs_both old true mid true new is h k = λ f raises.
      let a = h f raises in
      let b = k f raises in
      (λ x. ((a.0 (b.0 x).0).0, ((a.0 (b.0 x).0).1, (b.0 x).1)), λ y. b.1 (a.1 (y.0, y.1.0), y.1.1))
  pairs_both old true mid false new is h k = λ f raises before holds. k f raises ((h f raises).1 (before, holds.0)) holds.1

-- one that holds of no names
pub pairs_never : (P : (Name → Name) → Type 0) → ((g : Name → Name) → P g → ⊥) → (old new : Pairing) → PairsFor P old false new
unfolding PairsFor
pairs_never P never old new f raises before holds = never f.to holds

-- one that holds of all
pub pairs_ever : (P : (Name → Name) → Type 0) → ((g : Name → Name) → P g) → (old new : Pairing) → new ≡ old → PairsFor P old true new
unfolding PairsFor
pairs_ever P ever old new same f raises = rw same (λ x. (x, ever f.to), λ y. y.0)

-- one that goes by no names
pub pairs_if : (P : (Name → Name) → Type 0) (b : Bool) → (b ≡ true → (g : Name → Name) → P g) → ((g : Name → Name) → P g → b ≡ true) → (old : Pairing) → PairsFor P old b old
pairs_if P true ever only old = pairs_ever P (ever refl) old old refl
pairs_if P false ever only old = pairs_never P (λ g holds. true≢false (sym (only g holds))) old old

-- pairs as lists

pub agrees_more : (f : OtherNames) (ps : Pairing) (n m : Name) → Agrees f (ps ++ (n, m) ∷ []) ↔ (Agrees f ps × (f.to n ≡ m))
agrees_more f [] n m = (λ a. (tt, a.0), λ b. (b.1, tt))
agrees_more f (p ∷ ps) n m = let rest = agrees_more f ps n m in (λ a. ((a.0, (rest.0 a.1).0), (rest.0 a.1).1), λ b. (b.0.0, rest.1 (b.0.1, b.1)))

-- what is found under a name is what it is called
pub found_says : (f : OtherNames) (ps : Pairing) (n k : Name) → lookup (same_name n) ps ≡ Some k → Agrees f ps → f.to n ≡ k
found_says f [] n k is agrees = absurd (cc)
found_says f (p ∷ ps) n k is agrees = go (same_name n p.0) refl (found_says f ps n k) is
  where
    go : (b : Bool) → same_name n p.0 ≡ b → (lookup (same_name n) ps ≡ Some k → Agrees f ps → f.to n ≡ k) → cond b (Some p.1) (lookup (same_name n) ps) ≡ Some k → f.to n ≡ k
    go true same rest here = let one : p.1 ≡ k = cc in ap f.to (equal_if_same n p.0 same) ∙ agrees.0 ∙ one
    go false same rest later = rest later agrees.1

-- a name that is called like another is found where that one is
pub taken_says : (f : OtherNames) (ps : Pairing) (n m : Name) → is_in m (map (λ (p : Name × Name). p.1) ps) ≡ true → Agrees f ps → f.to n ≡ m → lookup (same_name n) ps ≡ None → ⊥
taken_says f [] n m is agrees called none = true≢false (sym is)
taken_says f (p ∷ ps) n m is agrees called none = go (same_name n p.0) refl (same_name m p.1) refl (taken_says f ps n m)
  where
    go : (b : Bool) → same_name n p.0 ≡ b → (c : Bool) → same_name m p.1 ≡ c
        → (is_in m (map (λ (q : Name × Name). q.1) ps) ≡ true → Agrees f ps → f.to n ≡ m → lookup (same_name n) ps ≡ None → ⊥) → ⊥
    go true same c other rest =
        let found : Some p.1 ≡ None = sym (ap (λ (d : Bool). cond d (Some p.1) (lookup (same_name n) ps)) same) ∙ none in
        absurd (cc)
    go false same true other rest =
        let one = f.apart n p.0 (called ∙ equal_if_same m p.1 other ∙ sym agrees.0) in
        true≢false (sym (ap (same_name n) (sym one) ∙ same_name-itself n) ∙ same)
    go false same false other rest =
        rest (sym (ap (λ (d : Bool). d || is_in m (map (λ (q : Name × Name). q.1) ps)) other) ∙ is) agrees.1 called
        (sym (ap (λ (d : Bool). cond d (Some p.1) (lookup (same_name n) ps)) same) ∙ none)

-- two lists, element by element, up to a place

module _ {A : Type 0} (r : (Name → Name) → A → A) where
  abbrev pub Before : (Name → Name) → ℕ → List A → List A → Type 0
  Before g zero xs ys = Unit {0}
  Before g (suc i) [] ys = Unit {0}
  Before g (suc i) (x ∷ xs) [] = Unit {0}
  Before g (suc i) (x ∷ xs) (y ∷ ys) = (r g x ≡ y) × Before g i xs ys

  pub before_more : (g : Name → Name) (i : ℕ) (xs ys : List A) (x y : A) → slice_get xs i ≡ Some x → slice_get ys i ≡ Some y → Before g (suc i) xs ys ↔ (Before g i xs ys × (r g x ≡ y))
  before_more g zero [] ys x y is at = absurd (cc)
  before_more g zero (a ∷ xs) [] x y is at = absurd (cc)
  before_more g zero (a ∷ xs) (b ∷ ys) x y is at =
      let one : a ≡ x = cc in
      let other : b ≡ y = cc in
      (λ h. (tt, ap (r g) (sym one) ∙ h.0 ∙ other), λ h. (ap (r g) one ∙ h.1 ∙ sym other, tt))
  before_more g (suc i) [] ys x y is at = absurd (cc)
  before_more g (suc i) (a ∷ xs) [] x y is at = absurd (cc)
  before_more g (suc i) (a ∷ xs) (b ∷ ys) x y is at =
      let rest = before_more g i xs ys x y is at in
      (λ h. ((h.0, (rest.0 h.1).0), (rest.0 h.1).1), λ h. (h.0.0, rest.1 (h.0.1, h.1)))

  pub before_all : (g : Name → Name) (i : ℕ) (xs ys : List A) → length xs ≤ i → length xs ≡ length ys → Before g i xs ys ↔ (map (r g) xs ≡ ys)
  before_all g i [] [] past same = (λ h. refl, λ e. none i)
    where
      none : (i : ℕ) → Before g i [] []
      none zero = tt
      none (suc i) = tt
  before_all g i [] (y ∷ ys) past same = absurd (cc)
  before_all g i (x ∷ xs) [] past same = absurd (cc)
  before_all g zero (x ∷ xs) (y ∷ ys) past same = absurd (omega (arith, past))
  before_all g (suc i) (x ∷ xs) (y ∷ ys) past same =
      let rest = before_all g i xs ys (omega (arith, past)) (cc) in
      (λ h. ap₂ (λ (z : A) (zs : List A). z ∷ zs) h.0 (rest.0 h.1), λ e. let one : r g x ≡ y = cc in let more : map (r g) xs ≡ ys = cc in (one, rest.1 more))

  -- as pairs

  pub before_none : (xs ys : List A) (old new : Pairing) → new ≡ old → PairsFor (λ g. Before g zero xs ys) old true new
  before_none xs ys old new same = pairs_ever _ (λ g. tt) old new same

  one_on : (i : ℕ) → suc i ≡ i + 1
  one_on i = omega arith

  pub before_next : (i : ℕ) (xs ys : List A) (x y : A) → slice_get xs i ≡ Some x → slice_get ys i ≡ Some y → (old mid : Pairing) (met : Bool) (new : Pairing) → met ≡ true
      → PairsFor (λ g. Before g i xs ys) old true mid → PairUp r x y mid met new → PairsFor (λ g. Before g (i + 1) xs ys) old true new
  before_next i xs ys x y is at old mid met new is_met h k = subst (λ (j : ℕ). PairsFor (λ g. Before g j xs ys) old true new) (one_on i)
      (pairs_as _ _ (λ g. let e = before_more g i xs ys x y is at in (e.1, e.0)) old true new
      (pairs_both (λ g. Before g i xs ys) (λ g. r g x ≡ y) old true mid true new refl h (subst (λ (b : Bool). PairUp r x y mid b new) is_met k)))

  pub before_stops : (i : ℕ) (xs ys : List A) (x y : A) → slice_get xs i ≡ Some x → slice_get ys i ≡ Some y → length xs ≡ length ys → (old mid : Pairing) (met : Bool) (new : Pairing) → met ≡ false
      → PairsFor (λ g. Before g i xs ys) old true mid → PairUp r x y mid met new → PairsFor (λ g. map (r g) xs ≡ ys) old false new
  before_stops i xs ys x y is at long old mid met new not_met h k =
      pairs_no (λ g. Before g i xs ys × (r g x ≡ y)) (λ g. map (r g) xs ≡ ys) (λ g e. (before_more g i xs ys x y is at).0 (upto g e)) old false new refl
      (pairs_both (λ g. Before g i xs ys) (λ g. r g x ≡ y) old true mid false new refl h (subst (λ (b : Bool). PairUp r x y mid b new) not_met k))
    where
      first : (g : Name → Name) (j : ℕ) (zs bs : List A) → map (r g) zs ≡ bs → Before g j zs bs
      first g zero zs bs e = tt
      first g (suc j) [] bs e = tt
      first g (suc j) (a ∷ zs) [] e = tt
      first g (suc j) (a ∷ zs) (b ∷ bs) e = let one : r g a ≡ b = cc in let more : map (r g) zs ≡ bs = cc in (one, first g j zs bs more)

      upto : (g : Name → Name) → map (r g) xs ≡ ys → Before g (suc i) xs ys
      upto g e = first g (suc i) xs ys e

  pub before_done : (i : ℕ) (xs ys : List A) → length xs ≤ i → length xs ≡ length ys → (old new : Pairing) → PairsFor (λ g. Before g i xs ys) old true new → PairsFor (λ g. map (r g) xs ≡ ys) old true new
  before_done i xs ys past long old new h = pairs_as _ _ (λ g. before_all g i xs ys past long) old true new h

  mapped_long : (g : Name → Name) (xs : List A) → length (map (r g) xs) ≡ length xs
  mapped_long g [] = refl
  mapped_long g (x ∷ xs) = ap suc (mapped_long g xs)

  -- lists that aren't as long
  pub other_length : (xs ys : List A) → (length xs ≡ length ys → ⊥) → (old new : Pairing) → PairsFor (λ g. map (r g) xs ≡ ys) old false new
  other_length xs ys apart old new = pairs_never _ (λ g e. apart (sym (mapped_long g xs) ∙ ap length e)) old new

-- what may be there

module _ {A : Type 0} (r : (Name → Name) → A → A) (a b : Option A) (old new : Pairing) where
  abbrev Maps : (Name → Name) → Type 0
  Maps g = option_map (r g) a ≡ b

  pub some_meets : (x y : A) (met : Bool) → a ≡ Some x → b ≡ Some y → PairUp r x y old met new → PairsFor Maps old met new
  some_meets x y met is at h = pairs_as _ _ (λ g. same g) old met new h
    where
      same : (g : Name → Name) → (r g x ≡ y) ↔ Maps g
      same g = (λ e. ap (option_map (r g)) is ∙ ap (λ (z : A). Some z) e ∙ sym at, λ e. let one : Some (r g x) ≡ Some y = sym (ap (option_map (r g)) is) ∙ e ∙ at in cc)

  pub none_meets : a ≡ None → b ≡ None → new ≡ old → PairsFor Maps old true new
  none_meets is at same = pairs_ever _ (λ g. ap (option_map (r g)) is ∙ sym at) old new same

  pub some_alone : (x : A) → a ≡ Some x → b ≡ None → PairsFor Maps old false new
  some_alone x is at = pairs_never _ (λ g e. let bad : Some (r g x) ≡ None = sym (ap (option_map (r g)) is) ∙ e ∙ at in absurd (cc)) old new

  pub none_alone : (y : A) → a ≡ None → b ≡ Some y → PairsFor Maps old false new
  none_alone y is at = pairs_never _ (λ g e. let bad : None ≡ Some y = sym (ap (option_map (r g)) is) ∙ e ∙ at in absurd (cc)) old new
