-- Where two answers differ.
use Rattle.std.proofs.Common.{◌≡◌, ◌≤◌, ◌+◌, ℕ, zero, suc, Bool, true, false, List, [], ◌∷◌, drop, length, refl, ap, arith, if◌then◌else◌, append-nil}
use Rattle.hurd_words.specs.Escapes.{escaped, escaped_byte}
use Rattle.hurd_witnesses.specs.Answers.{first_difference, same_at, same_mark}
use Rattle.hurd_witnesses.specs.declared.shown.Mark.{Mark}

pub one_escaped : (b : ℕ) → escaped (b ∷ []) ≡ escaped_byte b
unfolding escaped
one_escaped b = append-nil (escaped_byte b)

by_test : (b t : Bool) (n : ℕ) → b ≡ t → (if b then n + 1 else 1) ≡ (if t then n + 1 else 1)
by_test b t n is = ap (λ (c : Bool). if c then n + 1 else 1) is

-- a place where both have the same
pub same_more : (ms ns : List Mark) (i : ℕ) → same_at ms ns i ≡ true → first_difference (drop i ms) (drop i ns) ≡ first_difference (drop (suc i) ms) (drop (suc i) ns) + 1
unfolding first_difference
same_more (m ∷ ms) (n ∷ ns) zero same = by_test (same_mark m n) true (first_difference ms ns) same
same_more (m ∷ ms) (n ∷ ns) (suc i) same = same_more ms ns i same
same_more [] ns zero same = absurd (cc)
same_more [] ns (suc i) same = absurd (cc)
same_more (m ∷ ms) [] zero same = absurd (cc)
same_more (m ∷ ms) [] (suc i) same = absurd (none_right ms i same)
  where
    none_right : (ms : List Mark) (i : ℕ) → same_at ms [] i ≡ true → ⊥
    none_right [] zero same = absurd (cc)
    none_right [] (suc i) same = absurd (cc)
    none_right (m ∷ ms) zero same = absurd (cc)
    none_right (m ∷ ms) (suc i) same = none_right ms i same

no_right : (xs : List Mark) → first_difference xs [] ≡ 1
unfolding first_difference
no_right [] = refl
no_right (x ∷ xs) = refl

-- and where they don't
pub other_here : (ms ns : List Mark) (i : ℕ) → same_at ms ns i ≡ false → first_difference (drop i ms) (drop i ns) ≡ 1
unfolding first_difference
other_here (m ∷ ms) (n ∷ ns) zero other = by_test (same_mark m n) false (first_difference ms ns) other
other_here (m ∷ ms) (n ∷ ns) (suc i) other = other_here ms ns i other
other_here [] ns zero other = refl
other_here [] ns (suc i) other = refl
other_here (m ∷ ms) [] zero other = refl
other_here (m ∷ ms) [] (suc i) other = no_right (drop i ms)

-- none is left
pub none_left : (ms ns : List Mark) (i : ℕ) → length ms ≤ i → first_difference (drop i ms) (drop i ns) ≡ 1
unfolding first_difference
none_left [] ns zero h = refl
none_left [] ns (suc i) h = refl
none_left (m ∷ ms) ns zero h = absurd (omega arith)
none_left (m ∷ ms) [] (suc i) h = no_right (drop i ms)
none_left (m ∷ ms) (n ∷ ns) (suc i) h = none_left ms ns i (omega arith)
