-- What is in a label is plain.
use Rattle.std.proofs.Common.{◌≡◌, ◌∙◌, ◌<◌, ◌≤◌, ◌+◌, ◌-◌, ◌/◌, ◌%◌, ◌==◌, ◌&&◌, ◌++◌, ℕ, Bool, true, false, List, [], ◌∷◌, if◌then◌else◌, refl, ap, arith}
use Rattle.std.specs.Prelude.{nat_le, nat_lt}
use Rattle.std.proofs.Common.{suc}
use Rattle.std.proofs.lemmas.Bool.{and_parts, le-leb, leb-true, ltb-true, ne_eqb}
use Rattle.std.specs.List.{list_all}
use Rattle.hurd_words.specs.Escapes.{escaped_byte, hex_letter}
use Rattle.hurd_pictures.specs.Labels.{label, label_byte}
use Rattle.hurd_pictures.specs.Laws.{LabelsArePlain, is_plain}

both_plain : (xs ys : List ℕ) → list_all is_plain xs ≡ true → list_all is_plain ys ≡ true → list_all is_plain (xs ++ ys) ≡ true
both_plain [] ys p q = q
both_plain (x ∷ xs) ys p q =
    let parts = and_parts (is_plain x) (list_all is_plain xs) p in
    ap (λ (t : Bool). t && list_all is_plain (xs ++ ys)) parts.0 ∙ both_plain xs ys parts.1 q

if_plain : (t : Bool) (x y : List ℕ) → list_all is_plain x ≡ true → (t ≡ false → list_all is_plain y ≡ true) → list_all is_plain (if t then x else y) ≡ true
if_plain true x y p q = p
if_plain false x y p q = q refl

-- what can be printed is, except for markup
print_plain : (b : ℕ) → (nat_le 33 b && nat_le b 126) ≡ true → b == 60 ≡ false → b == 62 ≡ false → b == 34 ≡ false → is_plain b ≡ true
print_plain b inside n60 n62 n34 =
    let parts = and_parts (nat_le 33 b) (nat_le b 126) inside in
    let least = leb-true 33 b parts.0 in
    rw (n60, n62, n34, parts.1, le-leb 32 b (omega (arith, least))) refl

-- so is a hexadecimal digit
letter_plain : (b : ℕ) → 33 ≤ b → b ≤ 126 → (b ≡ 60 → ⊥) → (b ≡ 62 → ⊥) → (b ≡ 34 → ⊥) → is_plain b ≡ true
letter_plain b least most n60 n62 n34 = print_plain b (rw (le-leb 33 b least, le-leb b 126 most) refl) (ne_eqb b 60 n60) (ne_eqb b 62 n62) (ne_eqb b 34 n34)

digit_plain : (v : ℕ) → v < 16 → is_plain (hex_letter v) ≡ true
digit_plain v h = go (nat_lt v 10) refl
  where
    go : (s : Bool) → nat_lt v 10 ≡ s → is_plain (if s then 48 + v else 97 + (v - 10)) ≡ true
    go true is = let less = ltb-true v 10 is in letter_plain (48 + v) (omega arith) (omega (arith, less)) (λ e. omega (arith, e, less)) (λ e. omega (arith, e, less)) (λ e. omega (arith, e))
    go false is = letter_plain (97 + (v - 10)) (omega arith) (omega (arith, h)) (λ e. omega (arith, e)) (λ e. omega (arith, e)) (λ e. omega (arith, e))

one_plain : (b : ℕ) → is_plain b ≡ true → list_all is_plain (b ∷ []) ≡ true
one_plain b p = rw p refl

two_plain : (v w : ℕ) → v < 16 → w < 16 → list_all is_plain (92 ∷ 120 ∷ hex_letter v ∷ hex_letter w ∷ []) ≡ true
two_plain v w p q = rw (digit_plain v p, digit_plain w q) refl

escaped_plain : (b : ℕ) → b < 256 → b == 60 ≡ false → b == 62 ≡ false → b == 34 ≡ false → list_all is_plain (escaped_byte b) ≡ true
escaped_plain b below n60 n62 n34 =
    if_plain (b == 32) _ _ refl (λ _.
    if_plain (b == 10) _ _ refl (λ _.
    if_plain (b == 92) _ _ refl (λ _. printed (nat_le 33 b && nat_le b 126) refl)))
  where
    printed : (t : Bool) → (nat_le 33 b && nat_le b 126) ≡ t → list_all is_plain (if t then b ∷ [] else 92 ∷ 120 ∷ hex_letter (b / 16) ∷ hex_letter (b % 16) ∷ []) ≡ true
    printed true is = one_plain b (print_plain b is n60 n62 n34)
    printed false is = two_plain (b / 16) (b % 16) (omega (arith, below)) (omega (arith, below))

byte_plain : (b : ℕ) → b < 256 → list_all is_plain (label_byte b) ≡ true
byte_plain b below =
    if_plain (b == 38) _ _ refl (λ _.
    if_plain (b == 60) _ _ refl (λ n60.
    if_plain (b == 62) _ _ refl (λ n62.
    if_plain (b == 34) _ _ refl (λ n34.
    if_plain (b == 93) _ _ refl (λ _.
    if_plain (b == 92) _ _ refl (λ _.
    if_plain (b == 32) _ _ refl (λ _. escaped_plain b below n60 n62 n34)))))))

label_plain : (bs : List ℕ) → list_all (λ b. nat_lt b 256) bs ≡ true → list_all is_plain (label bs) ≡ true
label_plain [] e = refl
label_plain (b ∷ bs) e =
    let parts = and_parts (nat_lt b 256) (list_all (λ c. nat_lt c 256) bs) e in
    both_plain (label_byte b) (label bs) (byte_plain b (leb-true (suc b) 256 parts.0)) (label_plain bs parts.1)

pub labels_are_plain : LabelsArePlain
labels_are_plain [] e = refl
labels_are_plain (b ∷ bs) e = label_plain (b ∷ bs) e
