-- What is spelled, and what numbers are written with, may stand in a word.
use Rattle.std.proofs.Common.{◌≡◌, inl, inr, ◌∙◌, refl, ap, ℕ, zero, suc, ◌+◌, ◌-◌, ◌/◌, ◌%◌, ◌==◌, ◌&&◌, ◌||◌, ◌<◌, not, Bool, true, false, List, [], ◌∷◌, arith, nat_lt, nat_le, if◌then◌else◌, decimal}
use Rattle.std.specs.Fmt.{digit_glyph, digits, digits_onto}
use Rattle.std.proofs.lemmas.Bool.{and_from, and_parts, cases_Bool, leb-true, lt-ltb, ltb-true as below, ltb-false as above, ne_eqb, not_from_false, or_from, or_parts}
use Rattle.hurd_words.specs.Escapes.{escaped_byte, hex_letter}
use Rattle.hurd_words.specs.Printing.{octal_digit}
use Rattle.hurd_words.specs.Sentences.{is_letter, is_word}
use Rattle.hurd_words.specs.Spelling.{by_number, is_joint, spelled_by, spelled_byte}
use Rattle.hurd_words.proofs.Bytes.{all_both}
use Rattle.hurd_words.proofs.SpellingLaws.{more_bytes, no_bytes}

-- a byte that is above a space, and neither a comma nor a colon
letter_from : (b : ℕ) → 32 < b → (b ≡ 44 → ⊥) → (b ≡ 58 → ⊥) → is_letter b ≡ true
letter_from b high comma colon =
    and_from (nat_lt 32 b) (not (b == 44 || b == 58)) (lt-ltb 32 b high)
    (not_from_false (b == 44 || b == 58) (or_from (b == 44) (b == 58) (ne_eqb b 44 comma) (ne_eqb b 58 colon)))

-- a digit is one
digit_letter : (d : ℕ) → d < 10 → is_letter (48 + d) ≡ true
digit_letter d small = letter_from (48 + d) (omega (arith, small)) (λ e. omega (arith, e)) (λ e. omega (arith, e, small))

pub hex_is_letter : (v : ℕ) → is_letter (hex_letter v) ≡ true
hex_is_letter v = go (nat_lt v 10) refl
  where
    go : (s : Bool) → nat_lt v 10 ≡ s → is_letter (if s then 48 + v else 97 + (v - 10)) ≡ true
    go true is = digit_letter v (below v 10 is)
    go false is = letter_from (97 + (v - 10)) (omega arith) (λ e. omega (arith, e)) (λ e. omega (arith, e))

number_is_word : (b : ℕ) → is_word (by_number b) ≡ true
number_is_word b =
    and_from (is_letter 92) _ refl
    (and_from (is_letter 120) _ refl
    (and_from (is_letter (hex_letter (b / 16))) _ (hex_is_letter (b / 16)) (and_from (is_letter (hex_letter (b % 16))) _ (hex_is_letter (b % 16)) refl)))

escaped_is_word : (b : ℕ) → (b == 44 || b == 58) ≡ false → is_word (escaped_byte b) ≡ true
escaped_is_word b plain = elim (cases_Bool (b == 32)) [
  | inl space ↦ rw space refl
  | inr no_space ↦ elim (cases_Bool (b == 10)) [
    | inl newline ↦ rw (no_space, newline) refl
    | inr no_newline ↦ elim (cases_Bool (b == 92)) [
      | inl backslash ↦ rw (no_space, no_newline, backslash) refl
      | inr no_backslash ↦ elim (cases_Bool (nat_le 33 b && nat_le b 126)) [
        | inl printable ↦ rw (no_space, no_newline, no_backslash, printable) (and_from (is_letter b) true (letter b plain (and_parts (nat_le 33 b) (nat_le b 126) printable).0) refl)
        | inr hidden ↦ rw (no_space, no_newline, no_backslash, hidden) (number_is_word b)
      ]
    ]
  ]
]
  where
    letter : (c : ℕ) → (c == 44 || c == 58) ≡ false → nat_le 33 c ≡ true → is_letter c ≡ true
    letter c none high = let up = leb-true 33 c high in and_from (nat_lt 32 c) (not (c == 44 || c == 58)) (lt-ltb 32 c (omega (arith, up))) (not_from_false (c == 44 || c == 58) none)

-- what joins nothing is no comma and no colon
plainly : (path : Bool) (b : ℕ) → is_joint path b ≡ false → (b == 44 || b == 58) ≡ false
plainly path b none =
    let comma = or_parts (b == 44) (b == 58 || (b == 40 || (b == 41 || (b == 62 || (path && b == 47))))) none in
    or_from (b == 44) (b == 58) comma.0 (or_parts (b == 58) (b == 40 || (b == 41 || (b == 62 || (path && b == 47)))) comma.1).0

byte_is_word : (path : Bool) (b : ℕ) → is_word (spelled_byte path b) ≡ true
byte_is_word path b = elim (cases_Bool (is_joint path b)) [ inl is ↦ rw is (number_is_word b) | inr plain ↦ rw plain (escaped_is_word b (plainly path b plain)) ]

pub spelled_is_word : (path : Bool) (bs : List ℕ) → is_word (spelled_by path bs) ≡ true
spelled_is_word path [] = ap is_word (no_bytes path)
spelled_is_word path (b ∷ bs) =
    ap is_word (more_bytes path b bs) ∙ all_both is_letter (spelled_byte path b) (spelled_by path bs) (byte_is_word path b) (spelled_is_word path bs)

-- numbers

glyph_is_letter : (n : ℕ) → is_letter (digit_glyph false (n % 10)) ≡ true
glyph_is_letter n = go (nat_lt (n % 10) 10) refl
  where
    small : n % 10 < 10
    small = omega arith

    go : (s : Bool) → nat_lt (n % 10) 10 ≡ s → is_letter (if s then 48 + n % 10 else 87 + n % 10) ≡ true
    go true is = digit_letter (n % 10) small
    go false is = let far = above (n % 10) 10 is in absurd (omega (arith, far, small))

onto_is_word : (k n : ℕ) (rest : List ℕ) → is_word rest ≡ true → is_word (digits_onto k 10 false n rest) ≡ true
onto_is_word zero n rest all = all
onto_is_word (suc k) n rest all = go (n / 10 == 0) (onto_is_word k (n / 10) (digit_glyph false (n % 10) ∷ rest) more)
  where
    more : is_word (digit_glyph false (n % 10) ∷ rest) ≡ true
    more = and_from (is_letter (digit_glyph false (n % 10))) (is_word rest) (glyph_is_letter n) all

    go : (t : Bool) → is_word (digits_onto k 10 false (n / 10) (digit_glyph false (n % 10) ∷ rest)) ≡ true
        → is_word (if t then digit_glyph false (n % 10) ∷ rest else digits_onto k 10 false (n / 10) (digit_glyph false (n % 10) ∷ rest)) ≡ true
    go true later = more
    go false later = later

pub decimal_is_word : (n : ℕ) → is_word (decimal n) ≡ true
unfolding digits
decimal_is_word n = onto_is_word 64 n [] refl

pub octal_is_letter : (n : ℕ) → is_letter (octal_digit n) ≡ true
octal_is_letter n = let small : n % 8 < 8 = omega arith in digit_letter (n % 8) (omega (arith, small))
