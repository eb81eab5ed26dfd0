-- Numbers in words.
use Rattle.std.proofs.Common.{nat_le, ◌^◌, ℕ, ◌≡◌, ◌<◌, ◌≤◌, ◌∷◌, ◌&&◌, [], List, Option, Some, Result, Ok, Err, true, false, refl, subst, ◌∙◌, ap, arith, length, rules, nat_lt}
use Rattle.std.specs.Char.{is_ascii_digit}
use Rattle.std.specs.List.{list_all}
use Rattle.std.specs.Result.{result_ok, OkIff}
use Rattle.std.specs.Str.{IsAscii, IsUtf8}
use Rattle.std.specs.Str.Parse.{AllDigits, IsNumeral, ParsesUnsigned, digits_value, without_leading_plus}
use Rattle.std.proofs.lemmas.Bool.Decides.{nat_tests}
use Rattle.std.proofs.lemmas.Str.{IsUtf8-from_ascii}
use Rattle.std.proofs.lemmas.Str.Ascii.{IsAscii-nil, IsAscii-cons}
use Rattle.std.proofs.lemmas.Bool.{and_from, and_parts, le-ltb, leb-true, lt-ltb}
use Rattle.std.proofs.lemmas.Result.{OkIff-at_ok, OkIff-at_err}
use Rattle.std.proofs.lemmas.Str.{digit_value_digit}
use Rattle.std.proofs.lemmas.Str.Parse.{IsNumeralModel, numerals_by_value, parse_digits, without_leading_plus_none}
use Rattle.hurd_creds.specs.Numbers.{decimal_of, is_octal_digit, octal_number_of}

digits : IsNumeralModel (λ ds. list_all is_ascii_digit ds ≡ true) (digits_value 10)
digits = numerals_by_value (λ ds. list_all is_ascii_digit ds ≡ true) (search rules)

one_or_more : (c : ℕ) (cs : List ℕ) → 0 < length (c ∷ cs)
one_or_more c cs = omega arith

not_below : (a b : ℕ) → (a < b → ⊥) → b ≤ a
not_below a b h = omega arith

-- what `parse` makes of digits
pub number_read : {E : Type 0} (bits : ℕ) (ds : List ℕ) (r : Result ℕ E) (o : Option ℕ) → list_all is_ascii_digit ds ≡ true → ParsesUnsigned bits 10 ds r → o ≡ result_ok r → o ≡ decimal_of bits ds
number_read {E} bits ds (Ok n) o d p e =
    let q = OkIff-at_ok {T = ℕ} {E = E} (Ok n) _ (digits_value 10 ds) n (parse_digits digits {E = E} bits ds (Ok n) p d) refl in
    let t : (nat_lt 0 (length ds) && (list_all is_ascii_digit ds && nat_lt (digits_value 10 ds) (2 ^ bits))) ≡ true =
    and_from _ _ (lt-ltb 0 (length ds) q.0.0) (and_from _ _ d (lt-ltb (digits_value 10 ds) (2 ^ bits) q.0.1)) in
    e ∙ rw t (ap Some q.1)
number_read {E} bits [] (Err x) o d p e = e
number_read {E} bits (c ∷ cs) (Err x) o d p e =
    let q = OkIff-at_err {T = ℕ} {E = E} (Err x) _ (digits_value 10 (c ∷ cs)) x (parse_digits digits {E = E} bits (c ∷ cs) (Err x) p d) refl in
    let b : nat_lt (digits_value 10 (c ∷ cs)) (2 ^ bits) ≡ false = le-ltb (digits_value 10 (c ∷ cs)) (2 ^ bits) (not_below _ _ (λ l. q (one_or_more c cs, l))) in
    e ∙ rw (lt-ltb 0 (length (c ∷ cs)) (one_or_more c cs), d, b) refl

-- digits are text

low_byte : (b : ℕ) → is_ascii_digit b ≡ true → b < 128
low_byte b h = grind (arith, nat_tests)

digits_ascii : (bs : List ℕ) → list_all is_ascii_digit bs ≡ true → IsAscii bs
digits_ascii [] h = IsAscii-nil
digits_ascii (b ∷ bs) h = let two = and_parts (is_ascii_digit b) (list_all is_ascii_digit bs) h in IsAscii-cons b bs (low_byte b two.0) (digits_ascii bs two.1)

pub digits_text : (bs : List ℕ) → list_all is_ascii_digit bs ≡ true → IsUtf8 bs
digits_text bs h = IsUtf8-from_ascii bs (digits_ascii bs h)

-- octal digits, as `from_str_radix` has them
octal_digits : (ds : List ℕ) → list_all is_octal_digit ds ≡ true → AllDigits 8 ds
octal_digits [] h = tt
octal_digits (c ∷ cs) h =
    let p = and_parts (is_octal_digit c) (list_all is_octal_digit cs) h in
    let q = and_parts (nat_le 48 c) (nat_le c 55) p.0 in
    let low = leb-true 48 c q.0 in
    let high = leb-true c 55 q.1 in
    (omega (arith, digit_value_digit c (low, omega (arith, high))), octal_digits cs p.1)

unsigned : (ds : List ℕ) → list_all is_octal_digit ds ≡ true → without_leading_plus ds ≡ ds
unsigned [] h = refl
unsigned (c ∷ cs) h =
    let p = and_parts (is_octal_digit c) (list_all is_octal_digit cs) h in
    let low = leb-true 48 c (and_parts (nat_le 48 c) (nat_le c 55) p.0).0 in
    without_leading_plus_none (c ∷ cs) (λ e. omega (arith, low, e))

octal_parse : {E : Type 0} (ds : List ℕ) (r : Result ℕ E) → list_all is_octal_digit ds ≡ true → ParsesUnsigned 32 8 ds r
    → OkIff r (IsNumeral 8 ds × (digits_value 8 ds < 2 ^ 32)) (digits_value 8 ds)
octal_parse ds r h p = subst (λ (l : List ℕ). OkIff r (IsNumeral 8 l × (digits_value 8 l < 2 ^ 32)) (digits_value 8 l)) (unsigned ds h) p

-- what `from_str_radix` makes of octal digits, however many
pub octal_number_read : {E : Type 0} (ds : List ℕ) (r : Result ℕ E) (o : Option ℕ) → list_all is_octal_digit ds ≡ true → ParsesUnsigned 32 8 ds r → o ≡ result_ok r → o ≡ octal_number_of ds
octal_number_read {E} ds (Ok n) o d p e =
    let q = OkIff-at_ok {T = ℕ} {E = E} (Ok n) _ (digits_value 8 ds) n (octal_parse {E = E} ds (Ok n) d p) refl in
    let t : (nat_lt 0 (length ds) && (list_all is_octal_digit ds && nat_lt (digits_value 8 ds) (2 ^ 32))) ≡ true =
    and_from _ _ (lt-ltb 0 (length ds) q.0.0.0) (and_from _ _ d (lt-ltb (digits_value 8 ds) (2 ^ 32) q.0.1)) in
    e ∙ rw t (ap Some q.1)
octal_number_read {E} [] (Err x) o d p e = e
octal_number_read {E} (c ∷ cs) (Err x) o d p e =
    let q = OkIff-at_err {T = ℕ} {E = E} (Err x) _ (digits_value 8 (c ∷ cs)) x (octal_parse {E = E} (c ∷ cs) (Err x) d p) refl in
    let b : nat_lt (digits_value 8 (c ∷ cs)) (2 ^ 32) ≡ false = le-ltb (digits_value 8 (c ∷ cs)) (2 ^ 32) (not_below _ _ (λ l. q ((one_or_more c cs, octal_digits (c ∷ cs) d), l))) in
    e ∙ rw (lt-ltb 0 (length (c ∷ cs)) (one_or_more c cs), d, b) refl
