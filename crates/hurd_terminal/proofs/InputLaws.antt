-- What was read of known bytes.
use Rattle.std.proofs.Common.{◌≡◌, ℕ, ◌≤◌, List, ◌++◌, length, take, Option, Some, None, IfSome, sym, ◌∙◌, ap, subst, append-nil}
use Rattle.std.proofs.lemmas.List.{take_all}
use Rattle.std.proofs.Math.Seq.{take-append_seam}
use Rattle.std.proofs.KnownBytes.{Consumes-trans}
use Rattle.std.specs.Io.KnownBytes.{Consumes, IsAtEnd}

take_front : (xs ys : List ℕ) (n : ℕ) → length xs ≡ n → take n (xs ++ ys) ≡ xs
take_front xs ys n e = subst (λ (m : ℕ). take m (xs ++ ys) ≡ xs) e (take-append_seam xs ys)

-- so many bytes are the first ones
pub first_bytes : (a b : Option (List ℕ)) (xs : List ℕ) (n : ℕ) → Consumes a b xs → length xs ≡ n → IfSome a (λ ys. xs ≡ take n ys)
first_bytes None b xs n consumed e = tt
first_bytes (Some ys) None xs n consumed e = absurd consumed
first_bytes (Some ys) (Some zs) xs n consumed e = sym (rw consumed (take_front xs zs n e))

-- at the end, no more than so many bytes are all of them
pub all_bytes : (a b : Option (List ℕ)) (xs : List ℕ) (n : ℕ) → Consumes a b xs → IsAtEnd b → length xs ≤ n → IfSome a (λ ys. xs ≡ take n ys)
all_bytes None b xs n consumed end few = tt
all_bytes (Some ys) None xs n consumed end few = absurd consumed
all_bytes (Some ys) (Some zs) xs n consumed end few =
    let all : ys ≡ xs = consumed ∙ (ap (λ (bs : List ℕ). xs ++ bs) end ∙ append-nil xs) in
    rw all (sym (take_all n xs few))

-- what a read adds to a text was consumed with the text
pub read_on : (a b c : Option (List ℕ)) (xs ys zs : List ℕ) → Consumes a b xs → Consumes b c ys → zs ≡ xs ++ ys → Consumes a c zs
read_on a b c xs ys zs before here all = subst (λ (bs : List ℕ). Consumes a c bs) (sym all) (Consumes-trans a b c xs ys before here)
