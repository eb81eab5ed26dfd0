-- Texts with a newline at their end.
use Rattle.std.proofs.Common.{◌≡◌, ℕ, suc, ◌-◌, ◌==◌, Bool, true, false, not, if◌then◌else◌, List, [], ◌∷◌, ◌++◌, length, slice_get, Some, refl, sym, ◌∙◌, ap, arith}
use Rattle.hurd_words.specs.Answers.{ended_lines}

sub_one : (n : ℕ) → suc n - 1 ≡ n
sub_one n = omega arith

one_more : (b : ℕ) → (if b == 10 then b ∷ [] else b ∷ 10 ∷ []) ≡ (if not (b == 10) then b ∷ 10 ∷ [] else b ∷ [])
one_more b = elim (b == 10) as (λ q. (if q then b ∷ [] else b ∷ 10 ∷ []) ≡ (if not q then b ∷ 10 ∷ [] else b ∷ [])) [ true ↦ refl | false ↦ refl ]

in_front : (a : ℕ) (q : Bool) (xs ys : List ℕ) → a ∷ (if q then xs else ys) ≡ (if q then a ∷ xs else a ∷ ys)
in_front a true xs ys = refl
in_front a false xs ys = refl

-- a newline is added where the last byte is none
pub ended_by : (bs : List ℕ) (b : ℕ) → Some b ≡ slice_get bs (length bs - 1) → ended_lines bs ≡ (if not (b == 10) then bs ++ 10 ∷ [] else bs)
ended_by [] b last = absurd (cc)
ended_by (a ∷ []) b last = let same : b ≡ a = cc in rw same (one_more a)
ended_by (a ∷ c ∷ bs) b last =
    let n : ℕ = length (c ∷ bs) in
    let before : Some b ≡ slice_get (c ∷ bs) (length bs) = last ∙ ap (slice_get (a ∷ c ∷ bs)) (sub_one (suc (length bs))) in
    let here : Some b ≡ slice_get (c ∷ bs) (length (c ∷ bs) - 1) = before ∙ ap (slice_get (c ∷ bs)) (sym (sub_one (length bs))) in
    ap (λ (xs : List ℕ). a ∷ xs) (ended_by (c ∷ bs) b here) ∙ in_front a (not (b == 10)) (c ∷ (bs ++ 10 ∷ [])) (c ∷ bs)
