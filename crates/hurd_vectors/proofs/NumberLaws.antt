-- Numbers, and arrays of numbers and texts, are printable ASCII.
use Rattle.std.proofs.Common.{◌≡◌, refl, ℕ, zero, suc, ◌+◌, ◌/◌, ◌%◌, ◌==◌, ◌<◌, Bool, true, false, List, [], ◌∷◌, ◌++◌, arith, nat_lt, if◌then◌else◌, decimal, bytes_eq, codes, drop}
use Rattle.std.specs.Fmt.{digit_glyph, digits, digits_onto}
use Rattle.std.specs.List.{list_all, slice_split}
use Rattle.std.proofs.lemmas.Bool.{and_from, ltb-false as above}
use Rattle.hurd_creds.specs.Numbers.{long_number_of}
use Rattle.hurd_vectors.specs.Json.{below, found, joined_numbers, joined_texts, more_numbers, more_texts, natural, number, numbers, quoted, texts, truth}
use Rattle.hurd_vectors.specs.Lines.{is_printable}
use Rattle.hurd_vectors.proofs.LineLaws.{Printable, both, choose, digit_printable, quoted_printable}

-- a byte in front
pub byte_before : (b : ℕ) (bs : List ℕ) → is_printable b ≡ true → Printable bs → Printable (b ∷ bs)
byte_before b bs first rest = and_from (is_printable b) (list_all is_printable bs) first rest

glyph_printable : (n : ℕ) → is_printable (digit_glyph false (n % 10)) ≡ true
glyph_printable n = go (nat_lt (n % 10) 10) refl
  where
    small : n % 10 < 10
    small = omega arith

    go : (s : Bool) → nat_lt (n % 10) 10 ≡ s → is_printable (if s then 48 + n % 10 else 87 + n % 10) ≡ true
    go true is = digit_printable (n % 10) small
    go false is = let far = above (n % 10) 10 is in absurd (omega (arith, far, small))

onto_printable : (k n : ℕ) (rest : List ℕ) → Printable rest → Printable (digits_onto k 10 false n rest)
onto_printable zero n rest all = all
onto_printable (suc k) n rest all = go (n / 10 == 0) (onto_printable k (n / 10) (digit_glyph false (n % 10) ∷ rest) more)
  where
    more : Printable (digit_glyph false (n % 10) ∷ rest)
    more = byte_before (digit_glyph false (n % 10)) rest (glyph_printable n) all

    go : (t : Bool) → Printable (digits_onto k 10 false (n / 10) (digit_glyph false (n % 10) ∷ rest))
        → Printable (if t then digit_glyph false (n % 10) ∷ rest else digits_onto k 10 false (n / 10) (digit_glyph false (n % 10) ∷ rest))
    go true later = more
    go false later = later

pub decimal_printable : (n : ℕ) → Printable (decimal n)
unfolding digits
decimal_printable n = onto_printable 64 n [] refl

natural_printable : (word : List ℕ) → Printable (natural word)
natural_printable word = decimal_printable (found (long_number_of word))

below_printable : (n : ℕ) → Printable (below n)
below_printable n = both (if n == 0 then [] else codes "-") (decimal n) (choose (n == 0) [] (codes "-") refl refl) (decimal_printable n)

pub number_printable : (word : List ℕ) → Printable (number word)
number_printable [] = natural_printable []
number_printable (b ∷ bs) = choose (b == 45) (below (found (long_number_of bs))) (natural (b ∷ bs)) (below_printable (found (long_number_of bs))) (natural_printable (b ∷ bs))

-- arrays of numbers

more_numbers_printable : (words : List (List ℕ)) → Printable (more_numbers words)
unfolding more_numbers
more_numbers_printable [] = refl
more_numbers_printable (word ∷ words) = both (codes ", ") (natural word ++ more_numbers words) refl (both (natural word) (more_numbers words) (natural_printable word) (more_numbers_printable words))

joined_numbers_printable : (words : List (List ℕ)) → Printable (joined_numbers words)
joined_numbers_printable [] = refl
joined_numbers_printable (word ∷ words) = both (natural word) (more_numbers words) (natural_printable word) (more_numbers_printable words)

numbers_between : (words : List (List ℕ)) → Printable (91 ∷ joined_numbers words ++ 93 ∷ [])
numbers_between words = both (joined_numbers words) (93 ∷ []) (joined_numbers_printable words) refl

pub numbers_printable : (word : List ℕ) → Printable (numbers word)
numbers_printable word = choose (bytes_eq word (codes "-")) _ _ refl (numbers_between (slice_split (λ b. b == 44) word))

-- arrays of texts

more_texts_printable : (skip : ℕ) (items : List (List ℕ)) → Printable (more_texts skip items)
unfolding more_texts
more_texts_printable skip [] = refl
more_texts_printable skip (item ∷ items) =
    both (codes ", ") (quoted (drop skip item) ++ more_texts skip items) refl (both (quoted (drop skip item)) (more_texts skip items) (quoted_printable (drop skip item)) (more_texts_printable skip items))

joined_texts_printable : (skip : ℕ) (items : List (List ℕ)) → Printable (joined_texts skip items)
joined_texts_printable skip [] = refl
joined_texts_printable skip (item ∷ items) = both (quoted (drop skip item)) (more_texts skip items) (quoted_printable (drop skip item)) (more_texts_printable skip items)

pub texts_printable : (skip : ℕ) (items : List (List ℕ)) → Printable (texts skip items)
texts_printable skip items = both (joined_texts skip items) (93 ∷ []) (joined_texts_printable skip items) refl

pub truth_printable : (holds : Bool) → Printable (truth holds)
truth_printable holds = choose holds (codes "true") (codes "false") refl refl
