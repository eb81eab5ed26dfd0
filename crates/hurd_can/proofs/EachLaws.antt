-- Things of which each became another: one more, all, and what each of those became in turn.
use Rattle.std.proofs.Common.{◌≡◌, ℕ, zero, suc, ◌+◌, ◌<◌, add-one, arith, List, [], ◌∷◌, length, get_or, refl, ap}
use Rattle.std.specs.Prelude.{◌++◌, drop, slice_set, take}
use Rattle.hurd_can.specs.Remembered.{Each}

-- each stays as it is
pub each_same : {X : Type 0} (R : X → X → Type 0) → ((x : X) → R x x) → (xs : List X) → Each R xs xs
each_same R same [] = refl
each_same R same (x ∷ xs) = (x, xs, refl, same x, each_same R same xs)

-- what each of those became in turn
pub each_next : {X : Type 0} (R S T : X → X → Type 0) → ((x y z : X) → R x y → S y z → T x z) → (xs ys zs : List X) → Each R xs ys → Each S ys zs → Each T xs zs
each_next R S T both [] ys zs is next = rw is at next
each_next R S T both (x ∷ xs) ys zs (y, us, is, r, rest) next =
    let more = rw is at next in
    (more.0, more.1, more.2, both x y more.0 r more.3, each_next R S T both xs us more.1 rest more.4)

-- other words for it
pub each_as : {X : Type 0} (R S : X → X → Type 0) → ((x y : X) → R x y → S x y) → (xs ys : List X) → Each R xs ys → Each S xs ys
each_as R S same [] ys is = is
each_as R S same (x ∷ xs) ys (y, us, is, r, rest) = (y, us, is, same x y r, each_as R S same xs us rest)

-- of a list one thing more became another
grown : {X : Type 0} (R : X → X → Type 0) (xs done : List X) (i : ℕ) (d y : X) → Each R (take i xs) done → i < length xs → R (get_or (done ++ drop i xs) i d) y
    → (next : List X) × Each R (take (suc i) xs) next × (slice_set (done ++ drop i xs) i y ≡ next ++ drop (suc i) xs)
grown R [] done i d y each lt r = absurd (omega arith)
grown R (x ∷ xs) done zero d y each lt r =
    let at : R x y = rw each at r in
    (y ∷ [], (y, [], refl, at, refl), rw each refl)
grown R (x ∷ xs) done (suc i) d y (z, us, is, first, rest) lt r =
    let more = grown R xs us i d y rest (omega arith) (rw is at r) in
    (z ∷ more.0, (z, more.0, refl, first, more.1), rw is (ap (λ l. z ∷ l) more.2))

pub each_more : {X : Type 0} (R : X → X → Type 0) (xs ys : List X) (i : ℕ) (d y : X) → ((done : List X) × Each R (take i xs) done × (ys ≡ done ++ drop i xs)) → i < length xs
    → R (get_or ys i d) y → (next : List X) × Each R (take (i + 1) xs) next × (slice_set ys i y ≡ next ++ drop (i + 1) xs)
each_more R xs ys i d y (done, each, is) lt r = rw (add-one, is) (grown R xs done i d y each lt (rw is at r))
