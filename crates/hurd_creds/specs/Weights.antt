-- What the things of a list weigh together, and how many of them pass a test.
use Rattle.std.specs.Prelude.{ℕ, ◌+◌, Bool, true, false, List, [], ◌∷◌}

-- a number where the test holds, else 0
abbrev pub if_so : Bool → ℕ → ℕ
if_so true k = k
if_so false k = 0

-- 1 where it does
abbrev pub one_if : Bool → ℕ
one_if b = if_so b 1

-- the sum of what those of a list weigh
abbrev pub weigh_list : {X : Type 0} → (X → ℕ) → List X → ℕ
weigh_list W [] = 0
weigh_list W (x ∷ xs) = W x + weigh_list W xs

-- how many of a list pass a test
abbrev pub count_list : {X : Type 0} → (X → Bool) → List X → ℕ
count_list p xs = weigh_list (λ x. one_if (p x)) xs
