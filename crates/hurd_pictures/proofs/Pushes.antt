-- Texts that are added one after the other.
use Rattle.std.proofs.Common.{◌≡◌, ◌∙◌, ◌++◌, ℕ, List, ap, append_assoc}
use Rattle.std.specs.Prelude.{Result, Ok, Err, OnOk}

-- what was added in two steps was added in one
pub pushed : {E : Type 0} (r : Result (Unit {0}) E) (old now new a b : List ℕ) → now ≡ old ++ a → OnOk r (new ≡ now ++ b) → OnOk r (new ≡ old ++ (a ++ b))
pushed (Ok u) old now new a b first second = second ∙ (ap (λ (t : List ℕ). t ++ b) first ∙ append_assoc old a b)
pushed (Err e) old now new a b first second = tt
