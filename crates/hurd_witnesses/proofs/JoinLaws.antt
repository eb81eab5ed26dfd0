-- What is added piece by piece.
use Rattle.std.proofs.Common.{◌≡◌, ◌∙◌, List, [], ◌∷◌, ℕ, ◌++◌, append_assoc}

-- two pieces more
pub two_more : (old a b one all : List ℕ) → one ≡ old ++ a → all ≡ one ++ b → all ≡ old ++ (a ++ b)
two_more old a b one all first second = rw (second, first) (append_assoc old a b)

-- three pieces more
pub three_more : (old a b c one two all : List ℕ) → one ≡ old ++ a → two ≡ one ++ b → all ≡ two ++ c → all ≡ old ++ (a ++ (b ++ c))
three_more old a b c one two all first second third = rw (third, second, first) (append_assoc (old ++ a) b c ∙ append_assoc old a (b ++ c))

-- one more after those that were added
pub one_behind : {X : Type 0} (old front : List X) (x : X) (before all : List X) → before ≡ old ++ front → all ≡ before ++ x ∷ [] → all ≡ old ++ (front ++ x ∷ [])
one_behind old front x before all so_far more = rw (more, so_far) (append_assoc old front (x ∷ []))
