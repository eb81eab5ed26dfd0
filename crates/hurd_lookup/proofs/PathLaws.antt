-- The names of a path, one after another.
use Rattle.std.proofs.Common.{◌≡◌, ◌∙◌, ◌⊎◌, inl, inr, ◌<◌, ◌≤◌, ℕ, zero, suc, ◌+◌, nat_eq, not, Bool, true, false, cond, List, [], ◌∷◌, length, take, drop, length-drop, length-take, filter, nat_lt, Some, None, sym, refl, ap, arith}
use Rattle.std.specs.List.{position, position_or_len, slice_split, onto_first}
use Rattle.std.proofs.lemmas.List.Sums.{prefix_len-le-length}
use Rattle.std.proofs.lemmas.Bool.Decides.{nat_tests}
use Rattle.hurd_creds.specs.Limits.{most_name}
use Rattle.hurd_lookup.specs.Path.{names_in, is_nil, is_slash_byte, is_short_name, from_name, has_short_names}
use Rattle.hurd_lookup.specs.Lookup.{is_last}

abbrev is_name : List ℕ → Bool
is_name part = not (is_nil part)

abbrev parts : List ℕ → List (List ℕ)
parts path = slice_split is_slash_byte path

-- after the slashes that a path begins with its names are the same, it is no longer, and it is empty or begins with a byte of a name
record Bare (path rest : List ℕ) : Type 0 where
  names : names_in rest ≡ names_in path
  short : length rest ≤ length path
  begins : (rest ≡ []) ⊎ ((y : ℕ) × (ys : List ℕ) × (rest ≡ y ∷ ys) × (is_slash_byte y ≡ false))

bare : (path : List ℕ) → Bare path (from_name path)
bare [] = record { names = refl; short = omega arith; begins = inl refl }
bare (b ∷ bs) = go (is_slash_byte b) refl (bare bs)
  where
    go : (s : Bool) → is_slash_byte b ≡ s → Bare bs (from_name bs) → Bare (b ∷ bs) (cond s (from_name bs) (b ∷ bs))
    go true e ih = record { names = rw e ih.names; short = omega arith; begins = ih.begins }
    go false e ih = record { names = refl; short = omega arith; begins = inr (b, bs, refl, e) }

-- the first part, and the names after it
record Cut (path : List ℕ) : Type 0 where
  behind : List (List ℕ)
  first : parts path ≡ take (position_or_len is_slash_byte path) path ∷ behind
  rest : filter is_name behind ≡ names_in (drop (position_or_len is_slash_byte path) path)

-- a byte in front is a slash or isn't
cut : (path : List ℕ) → Cut path
cut [] = record { behind = []; first = refl; rest = refl }
cut (b ∷ bs) = go (is_slash_byte b) refl (cut bs)
  where
    one : 1 + position_or_len is_slash_byte bs ≡ suc (position_or_len is_slash_byte bs)
    one = omega arith

    go : (s : Bool) → is_slash_byte b ≡ s → Cut bs → Cut (b ∷ bs)
    go true e c = record { behind = parts bs; first = rw e refl; rest = rw e (rw e refl) }
    go false e c = record { behind = c.behind; first = rw (e, one) (ap (onto_first b) c.first); rest = rw (e, one) c.rest }

-- where the first part ends
pub position_some : (path : List ℕ) (i : ℕ) → position is_slash_byte path ≡ Some i → i ≡ position_or_len is_slash_byte path
position_some path i = go (nat_lt (position_or_len is_slash_byte path) (length path))
  where
    go : (b : Bool) → cond b (Some (position_or_len is_slash_byte path)) None ≡ Some i → i ≡ position_or_len is_slash_byte path
    go true e = cc
    go false e = absurd (cc)

pub position_none : (path : List ℕ) → position is_slash_byte path ≡ None → length path ≡ position_or_len is_slash_byte path
position_none path = go (nat_lt (position_or_len is_slash_byte path) (length path)) refl
  where
    go : (b : Bool) → nat_lt (position_or_len is_slash_byte path) (length path) ≡ b → cond b (Some (position_or_len is_slash_byte path)) None ≡ None → length path ≡ position_or_len is_slash_byte path
    go true e h = absurd (cc)
    go false e h =
        let low : position_or_len is_slash_byte path ≤ length path = prefix_len-le-length _ path in
        grind (arith, nat_tests)

-- a path that begins with a name: that name, and the names after it
pub first_of : (y : ℕ) (ys : List ℕ) → is_slash_byte y ≡ false → let k = position_or_len is_slash_byte (y ∷ ys) in (names_in (y ∷ ys) ≡ take k (y ∷ ys) ∷ names_in (drop k (y ∷ ys))) × (length (drop k (y ∷ ys)) ≤ length ys)
first_of y ys e =
    let k = position_or_len is_slash_byte ys in
    let one : 1 + k ≡ suc k = omega arith in
    let c = cut (y ∷ ys) in
    let first = rw (e, one) at c.first in
    let rest = rw (e, one) at c.rest in
    rw (e, one) (ap (filter is_name) first ∙ ap (λ ns. (y ∷ take k ys) ∷ ns) rest, omega (arith, length-drop k ys))

-- the same of any path

pub none_in : (path : List ℕ) → length (from_name path) ≡ 0 → names_in path ≡ []
none_in path h = elim (bare path).begins [
  | inl e ↦ sym (bare path).names ∙ ap names_in e
  | inr b ↦ absurd (let more : length (from_name path) ≡ length b.1 + 1 = ap length b.2 ∙ omega arith in omega arith)
]

pub one_in : (path : List ℕ) → (length (from_name path) ≡ 0 → ⊥) → let k = position_or_len is_slash_byte (from_name path) in (names_in path ≡ take k (from_name path) ∷ names_in (drop k (from_name path))) × (length (drop k (from_name path)) < length path)
one_in path h = elim (bare path).begins [
  | inl e ↦ absurd (h (ap length e))
  | inr b ↦
      let f = first_of b.0 b.1 b.3 in
      let short = (bare path).short in
      let long : length (from_name path) ≡ length b.1 + 1 = ap length b.2 ∙ omega arith in
      let back : length (drop (position_or_len is_slash_byte (from_name path)) (from_name path)) ≤ length b.1 = rw b.2 (f.1) in
      (sym (bare path).names ∙ rw b.2 f.0, omega arith)
]

-- no name is left exactly where nothing follows the slashes
pub last_in : (path : List ℕ) (b : Bool) → b ≡ nat_eq (length (from_name path)) 0 → b ≡ is_last (names_in path)
last_in path true is = rw (none_in path (grind (arith, nat_tests))) refl
last_in path false is = rw (one_in path (λ e. grind (arith, nat_tests, e))).0 refl

-- in a path that is no longer than a name may be no name is too long: it has at most n bytes
short_by : (n : ℕ) (path : List ℕ) → length path ≤ n → length path ≤ most_name → has_short_names path ≡ true
short_by zero path few short = rw (none_in path (let low : length (from_name path) ≤ length path = (bare path).short in omega (arith, low, few))) refl
short_by (suc n) path few short = by (nat_eq (length (from_name path)) 0) refl (short_by n)
  where
    low : length (from_name path) ≤ length path
    low = (bare path).short

    by : (b : Bool) → nat_eq (length (from_name path)) 0 ≡ b → ((rest : List ℕ) → length rest ≤ n → length rest ≤ most_name → has_short_names rest ≡ true) → has_short_names path ≡ true
    by true is ih = rw (none_in path (grind (arith, nat_tests))) refl
    by false is ih =
        let one = one_in path (λ e. grind (arith, nat_tests, e)) in
        let k = position_or_len is_slash_byte (from_name path) in
        let name : is_short_name (take k (from_name path)) ≡ true = grind (arith, nat_tests, low, length-take k (from_name path)) in
        let more : has_short_names (drop k (from_name path)) ≡ true = ih (drop k (from_name path)) (omega (arith, one.1, few)) (omega (arith, one.1, short)) in
        rw (one.0, name, more) refl

pub short_names : (path : List ℕ) → length path ≤ most_name → has_short_names path ≡ true
short_names path short = short_by (length path) path (omega arith) short
