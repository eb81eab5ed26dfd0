-- Lists of numbers, and the names of users.
use Rattle.std.proofs.Common.{codes, append-nil, ◌==◌, ℕ, ◌≡◌, ◌+◌, ◌++◌, ◌∷◌, [], if◌then◌else◌, List, Option, Some, None, Bool, false, refl, sym, ◌∙◌, ap, map, bytes_eq}
use Rattle.std.specs.List.{position_from, slice_split}
use Rattle.hurd_words.specs.Words.{onto}
use Rattle.hurd_words.proofs.Loops.{behind-push}
use Rattle.hurd_words.specs.Reading.{behind}
use Rattle.hurd_creds.specs.Numbers.{number_of}
use Rattle.hurd_words.specs.Users.{listed, numbers_of}

-- a number is taken, whatever follows it
pub number_taken : (front new : List ℕ) (n : ℕ) (part : List ℕ) (rest : List (List ℕ)) → Some n ≡ number_of part → new ≡ front ++ n ∷ []
    → behind front (numbers_of (part ∷ rest)) ≡ behind new (numbers_of rest)
unfolding numbers_of
number_taken front new n part rest e w =
    ap (λ (o : Option ℕ). behind front (onto o (numbers_of rest))) (sym e)
    ∙ (behind-push front n (numbers_of rest) ∙ ap (λ (x : List ℕ). behind x (numbers_of rest)) (sym w))

pub no_number : (part : List ℕ) (rest : List (List ℕ)) → None ≡ number_of part → numbers_of (part ∷ rest) ≡ None
unfolding numbers_of
no_number part rest e = ap (λ (o : Option ℕ). onto o (numbers_of rest)) (sym e)

pub numbers_ended : (front : List ℕ) → behind front (numbers_of []) ≡ Some front
unfolding numbers_of
numbers_ended front = ap Some (append-nil front)

pub listed_by : (word : List ℕ) → bytes_eq word (codes "-") ≡ false → listed word ≡ numbers_of (slice_split (λ b. b == 44) word)
listed_by word h = rw h refl

-- a place in a list, and in the list that a function makes of it
pub position_from-map : {X Y : Type 0} (f : X → Y) (test : Y → Bool) (i : ℕ) (xs : List X) → position_from (λ x. test (f x)) i xs ≡ position_from test i (map f xs)
position_from-map f test i [] = refl
position_from-map f test i (x ∷ xs) = ap (λ (o : Option ℕ). if test (f x) then Some i else o) (position_from-map f test (i + 1) xs)
