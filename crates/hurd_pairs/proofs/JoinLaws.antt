-- Texts that are added one after another.
use Rattle.std.proofs.Common.{◌≡◌, ◌∙◌, ap, ℕ, List, ◌++◌, append_assoc, Result, Ok, Err}
use Rattle.std.specs.Prelude.{OnOk, is_ok, if◌then◌else◌}

-- a text was added after another
pub join : (old front back mid new : List ℕ) → mid ≡ old ++ front → new ≡ mid ++ back → new ≡ old ++ (front ++ back)
join old front back mid new is next = next ∙ (ap (λ (t : List ℕ). t ++ back) is ∙ append_assoc old front back)

-- the same where there was memory for the last
pub ok_join : {E : Type 0} (r : Result (Unit {0}) E) (old front back mid new : List ℕ) → mid ≡ old ++ front → OnOk r (new ≡ mid ++ back) → OnOk r (new ≡ old ++ (front ++ back))
ok_join (Ok u) old front back mid new is next = join old front back mid new is next
ok_join (Err e) old front back mid new is next = next

-- the same where the last addition tells what it leaves either way
pub if_join : {E : Type 0} (r : Result (Unit {0}) E) (old front back mid new : List ℕ) → mid ≡ old ++ front → new ≡ (if is_ok r then (mid ++ back) else mid) → OnOk r (new ≡ old ++ (front ++ back))
if_join (Ok u) old front back mid new is next = join old front back mid new is next
if_join (Err e) old front back mid new is next = tt
