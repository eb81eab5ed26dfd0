-- Two lists that have the same elements of one's own can be gone through together: an element of one's own in both, another in either.
use Rattle.std.proofs.Common.{◌≡◌, Bool, true, false, List, [], ◌∷◌, refl, subst}
use Rattle.std.specs.Prelude.{if◌then◌else◌}
use Rattle.std.specs.List.{filter}

module _ {X : Type 0} (own : X → Bool) (P : List X → List X → Type 0)
    (none : P [] [])
    (left : (x : X) (xs ys : List X) → own x ≡ false → P xs ys → P (x ∷ xs) ys)
    (right : (y : X) (xs ys : List X) → own y ≡ false → P xs ys → P xs (y ∷ ys))
    (both : (x : X) (xs ys : List X) → own x ≡ true → P xs ys → P (x ∷ xs) (x ∷ ys)) where
  -- what comes next, by whether it is one's own

  none_by : (y : X) (ys : List X) → ([] ≡ filter own ys → P [] ys) → (b : Bool) → own y ≡ b → [] ≡ (if b then y ∷ filter own ys else filter own ys) → P [] (y ∷ ys)
  none_by y ys rest true is e = absurd (cc)
  none_by y ys rest false is e = right y [] ys is (rest e)

  none_left : (ys : List X) → [] ≡ filter own ys → P [] ys
  none_left [] e = none
  none_left (y ∷ ys) e = none_by y ys (none_left ys) (own y) refl e

  one_by : (x y : X) (xs ys : List X) → own x ≡ true → (filter own xs ≡ filter own ys → P xs ys) → (x ∷ filter own xs ≡ filter own ys → P (x ∷ xs) ys)
      → (b : Bool) → own y ≡ b → x ∷ filter own xs ≡ (if b then y ∷ filter own ys else filter own ys) → P (x ∷ xs) (y ∷ ys)
  one_by x y xs ys ours rest later true is e =
      let same : x ≡ y = cc in
      let tail : filter own xs ≡ filter own ys = cc in
      subst (λ z. P (x ∷ xs) (z ∷ ys)) same (both x xs ys ours (rest tail))
  one_by x y xs ys ours rest later false is e = right y (x ∷ xs) ys is (later e)

  one_left : (x : X) (xs : List X) → own x ≡ true → ((ys : List X) → filter own xs ≡ filter own ys → P xs ys) → (ys : List X) → x ∷ filter own xs ≡ filter own ys → P (x ∷ xs) ys
  one_left x xs ours rest [] e = absurd (cc)
  one_left x xs ours rest (y ∷ ys) e = one_by x y xs ys ours (rest ys) (one_left x xs ours rest ys) (own y) refl e

  some_by : (x : X) (xs ys : List X) → ((ys : List X) → filter own xs ≡ filter own ys → P xs ys) → (b : Bool) → own x ≡ b → (if b then x ∷ filter own xs else filter own xs) ≡ filter own ys → P (x ∷ xs) ys
  some_by x xs ys rest true is e = one_left x xs is rest ys e
  some_by x xs ys rest false is e = left x xs ys is (rest ys e)

  pub together : (xs ys : List X) → filter own xs ≡ filter own ys → P xs ys
  together [] ys e = none_left ys e
  together (x ∷ xs) ys e = some_by x xs ys (together xs) (own x) refl e
