-- Each line that is printed is printable ASCII.
use Rattle.std.proofs.Common.{◌≡◌, ◌∙◌, refl, ℕ, ◌+◌, ◌/◌, ◌%◌, ◌==◌, ◌<◌, Bool, true, false, List, [], ◌∷◌, ◌++◌, arith, if◌then◌else◌, bytes_eq, codes}
use Rattle.std.specs.List.{list_all}
use Rattle.std.proofs.lemmas.List.Folds.{list_all-append}
use Rattle.std.proofs.lemmas.Bool.Decides.{nat_tests}
use Rattle.hurd_words.specs.Escapes.{hex_letter}
use Rattle.hurd_vectors.specs.Json.{json, json_byte, name_byte, name_bytes, names, quoted}
use Rattle.hurd_vectors.specs.Lines.{is_printable}

abbrev pub Printable : List ℕ → Type 0
Printable xs = list_all is_printable xs ≡ true

pub both : (xs ys : List ℕ) → Printable xs → Printable ys → Printable (xs ++ ys)
both xs ys p q = list_all-append is_printable xs ys ∙ rw (p, q) refl

pub choose : (t : Bool) (xs ys : List ℕ) → Printable xs → Printable ys → Printable (if t then xs else ys)
choose true xs ys p q = p
choose false xs ys p q = q

-- a byte as it is, where it may stand so
plain_or : (b : ℕ) (ys : List ℕ) → Printable ys → Printable (if is_printable b then b ∷ [] else ys)
plain_or b ys p = go (is_printable b) refl
  where
    go : (t : Bool) → is_printable b ≡ t → Printable (if t then b ∷ [] else ys)
    go true is = rw is refl
    go false is = p

-- digits

pub digit_printable : (d : ℕ) → d < 10 → is_printable (48 + d) ≡ true
digit_printable d small = grind (arith, nat_tests)

hex_printable : (v : ℕ) → v < 16 → is_printable (hex_letter v) ≡ true
hex_printable v small = grind (arith, nat_tests)

code_printable : (b : ℕ) → Printable (codes "\\u00" ++ hex_letter (b / 16 % 16) ∷ hex_letter (b % 16) ∷ [])
code_printable b =
    let high : b / 16 % 16 < 16 = omega arith in
    let low : b % 16 < 16 = omega arith in
    rw (hex_printable (b / 16 % 16) high, hex_printable (b % 16) low) refl

byte_printable : (b : ℕ) → Printable (json_byte b)
byte_printable b =
    choose (b == 34) _ _ refl (choose (b == 92) _ _ refl (choose (b == 8) _ _ refl (choose (b == 9) _ _ refl (choose (b == 10) _ _ refl
    (choose (b == 12) _ _ refl (choose (b == 13) _ _ refl (plain_or b _ (code_printable b))))))))

pub json_printable : (bs : List ℕ) → Printable (json bs)
unfolding json
json_printable [] = refl
json_printable (b ∷ bs) = both (json_byte b) (json bs) (byte_printable b) (json_printable bs)

pub name_bytes_printable : (bs : List ℕ) → Printable (name_bytes bs)
unfolding name_bytes
name_bytes_printable [] = refl
name_bytes_printable (b ∷ bs) = both (name_byte b) (name_bytes bs) (choose (b == 44) _ _ refl (byte_printable b)) (name_bytes_printable bs)

pub quoted_printable : (bs : List ℕ) → Printable (quoted bs)
quoted_printable bs = both (json bs) (34 ∷ []) (json_printable bs) refl

pub names_printable : (word : List ℕ) → Printable (names word)
names_printable word = choose (bytes_eq word (codes "-")) _ _ refl (both (codes "[\"") (name_bytes word ++ codes "\"]") refl (both (name_bytes word) (codes "\"]") (name_bytes_printable word) refl))
