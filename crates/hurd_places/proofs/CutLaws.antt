-- Where the steps of a path begin.
use Rattle.std.proofs.Common.{◌≡◌, inl, inr, ◌∙◌, refl, sym, ap, ℕ, zero, suc, ◌+◌, ◌-◌, ◌/◌, ◌%◌, ◌==◌, ◌&&◌, ◌||◌, ◌<◌, not, Bool, true, false, true≢false, List, [], ◌∷◌, ◌++◌, arith, nat_lt, nat_le, if◌then◌else◌, decimal}
use Rattle.std.specs.Fmt.{digit_glyph, digits, digits_onto}
use Rattle.std.specs.List.{list_all}
use Rattle.std.proofs.lemmas.Bool.{and_from, cases_Bool, ltb-true as below, ltb-false as above, ne_eqb, not_from_false, not_from_true, or_from, or_parts}
use Rattle.hurd_words.specs.Escapes.{escaped_byte, hex_letter}
use Rattle.hurd_words.specs.Printing.{spaced}
use Rattle.hurd_words.specs.Spelling.{by_number, is_joint, spelled_by, spelled_byte, spelled_name}
use Rattle.hurd_words.proofs.Bytes.{all_both, all_first, all_rest, first_same}
use Rattle.hurd_words.proofs.SpellingLaws.{more_bytes, no_bytes}

-- a byte with which a step begins: a slash, or a bracket that opens
abbrev pub is_cut : ℕ → Bool
is_cut b = b == 47 || b == 40

abbrev pub is_inner : ℕ → Bool
is_inner b = not (is_cut b)

-- a text within a step
abbrev pub is_whole : List ℕ → Bool
is_whole w = list_all is_inner w

no_cut : (y : ℕ) → is_cut y ≡ true → is_inner y ≡ true → ⊥
no_cut y cuts inner = true≢false (sym inner ∙ not_from_true (is_cut y) cuts)

no_more : (a t b : List ℕ) (y : ℕ) → is_cut y ≡ true → is_whole a ≡ true → a ≡ t ++ (y ∷ b) → ⊥
no_more a [] b y cuts whole is = no_cut y cuts (all_first is_inner y b (sym (ap is_whole is) ∙ whole))
no_more [] (c ∷ t) b y cuts whole is = absurd (cc)
no_more (d ∷ a) (c ∷ t) b y cuts whole is = no_more a t b y cuts (all_rest is_inner d a whole) (first_same d c a (t ++ (y ∷ b)) is).1

-- a text has one last step
pub last_step : (s t a b : List ℕ) (x y : ℕ) → is_cut x ≡ true → is_cut y ≡ true → is_whole a ≡ true → is_whole b ≡ true → s ++ (x ∷ a) ≡ t ++ (y ∷ b) → (s ≡ t) × (x ≡ y) × (a ≡ b)
last_step [] [] a b x y cut_x cut_y whole_a whole_b is = let both = first_same x y a b is in (refl, both.0, both.1)
last_step [] (c ∷ t) a b x y cut_x cut_y whole_a whole_b is = absurd (no_more a t b y cut_y whole_a (first_same x c a (t ++ (y ∷ b)) is).1)
last_step (c ∷ s) [] a b x y cut_x cut_y whole_a whole_b is = absurd (no_more b s a x cut_x whole_b (sym (first_same c y (s ++ (x ∷ a)) b is).1))
last_step (c ∷ s) (d ∷ t) a b x y cut_x cut_y whole_a whole_b is =
    let both = first_same c d (s ++ (x ∷ a)) (t ++ (y ∷ b)) is in
    let rest = last_step s t a b x y cut_x cut_y whole_a whole_b both.1 in
    (ap (λ (z : ℕ). z ∷ s) both.0 ∙ ap (λ (zs : List ℕ). d ∷ zs) rest.0, rest.1, rest.2)

-- which texts are within a step

inner_from : (b : ℕ) → (b ≡ 47 → ⊥) → (b ≡ 40 → ⊥) → is_inner b ≡ true
inner_from b slash bracket = not_from_false (is_cut b) (or_from (b == 47) _ (ne_eqb b 47 slash) (ne_eqb b 40 bracket))

digit_inner : (d : ℕ) → d < 10 → is_inner (48 + d) ≡ true
digit_inner d small = inner_from (48 + d) (λ e. omega (arith, e)) (λ e. omega (arith, e))

hex_inner : (v : ℕ) → is_inner (hex_letter v) ≡ true
hex_inner v = go (nat_lt v 10) refl
  where
    go : (s : Bool) → nat_lt v 10 ≡ s → is_inner (if s then 48 + v else 97 + (v - 10)) ≡ true
    go true is = digit_inner v (below v 10 is)
    go false is = inner_from (97 + (v - 10)) (λ e. omega (arith, e)) (λ e. omega (arith, e))

number_whole : (b : ℕ) → is_whole (by_number b) ≡ true
number_whole b = and_from (is_inner (hex_letter (b / 16))) _ (hex_inner (b / 16)) (and_from (is_inner (hex_letter (b % 16))) true (hex_inner (b % 16)) refl)

escaped_whole : (b : ℕ) → is_inner b ≡ true → is_whole (escaped_byte b) ≡ true
escaped_whole b plain = elim (cases_Bool (b == 32)) [
  | inl space ↦ rw space refl
  | inr no_space ↦ elim (cases_Bool (b == 10)) [
    | inl newline ↦ rw (no_space, newline) refl
    | inr no_newline ↦ elim (cases_Bool (b == 92)) [
      | inl backslash ↦ rw (no_space, no_newline, backslash) refl
      | inr no_backslash ↦ elim (cases_Bool (nat_le 33 b && nat_le b 126)) [
        | inl printable ↦ rw (no_space, no_newline, no_backslash, printable) (and_from (is_inner b) true plain refl)
        | inr hidden ↦ rw (no_space, no_newline, no_backslash, hidden) (number_whole b)
      ]
    ]
  ]
]

inner_if_no_joint : (b : ℕ) → is_joint true b ≡ false → is_inner b ≡ true
inner_if_no_joint b none =
    let comma = or_parts (b == 44) (b == 58 || (b == 40 || (b == 41 || (b == 62 || b == 47)))) none in
    let colon = or_parts (b == 58) (b == 40 || (b == 41 || (b == 62 || b == 47))) comma.1 in
    let opening = or_parts (b == 40) (b == 41 || (b == 62 || b == 47)) colon.1 in
    let closing = or_parts (b == 41) (b == 62 || b == 47) opening.1 in
    let arrow = or_parts (b == 62) (b == 47) closing.1 in
    not_from_false (is_cut b) (or_from (b == 47) _ arrow.1 opening.0)

byte_whole : (b : ℕ) → is_whole (spelled_byte true b) ≡ true
byte_whole b = elim (cases_Bool (is_joint true b)) [ inl is ↦ rw is (number_whole b) | inr plain ↦ rw plain (escaped_whole b (inner_if_no_joint b plain)) ]

-- a name as it is spelled
pub name_whole : (bs : List ℕ) → is_whole (spelled_name bs) ≡ true
name_whole [] = ap is_whole (no_bytes true)
name_whole (b ∷ bs) = ap is_whole (more_bytes true b bs) ∙ all_both is_inner (spelled_byte true b) (spelled_by true bs) (byte_whole b) (name_whole bs)

glyph_inner : (n : ℕ) → is_inner (digit_glyph false (n % 10)) ≡ true
glyph_inner n = go (nat_lt (n % 10) 10) refl
  where
    small : n % 10 < 10
    small = omega arith

    go : (s : Bool) → nat_lt (n % 10) 10 ≡ s → is_inner (if s then 48 + n % 10 else 87 + n % 10) ≡ true
    go true is = digit_inner (n % 10) small
    go false is = let far = above (n % 10) 10 is in absurd (omega (arith, far, small))

onto_whole : (k n : ℕ) (rest : List ℕ) → is_whole rest ≡ true → is_whole (digits_onto k 10 false n rest) ≡ true
onto_whole zero n rest all = all
onto_whole (suc k) n rest all = go (n / 10 == 0) (onto_whole k (n / 10) (digit_glyph false (n % 10) ∷ rest) more)
  where
    more : is_whole (digit_glyph false (n % 10) ∷ rest) ≡ true
    more = and_from (is_inner (digit_glyph false (n % 10))) (is_whole rest) (glyph_inner n) all

    go : (t : Bool) → is_whole (digits_onto k 10 false (n / 10) (digit_glyph false (n % 10) ∷ rest)) ≡ true
        → is_whole (if t then digit_glyph false (n % 10) ∷ rest else digits_onto k 10 false (n / 10) (digit_glyph false (n % 10) ∷ rest)) ≡ true
    go true later = more
    go false later = later

-- a number
pub decimal_whole : (n : ℕ) → is_whole (decimal n) ≡ true
unfolding digits
decimal_whole n = onto_whole 64 n [] refl

-- a word with a number, after its bracket
abbrev pub numbered_rest : List ℕ → ℕ → List ℕ
numbered_rest word k = word ++ (spaced k ++ 41 ∷ [])

pub numbered_whole : (word : List ℕ) (k : ℕ) → is_whole word ≡ true → is_whole (numbered_rest word k) ≡ true
numbered_whole word k whole = all_both is_inner word (spaced k ++ 41 ∷ []) whole (all_both is_inner (decimal k) (41 ∷ []) (decimal_whole k) refl)

-- a name as it is spelled has a byte, where it has one
pub spelled_some : (b : ℕ) (bs : List ℕ) → spelled_name (b ∷ bs) ≡ [] → ⊥
spelled_some b bs none = some (spelled_byte true b) (spelled_by true bs) (byte_some b) (sym (more_bytes true b bs) ∙ none)
  where
    escaped_some : escaped_byte b ≡ [] → ⊥
    escaped_some = elim (cases_Bool (b == 32)) [
      | inl space ↦ rw space (λ e. cc)
      | inr no_space ↦ elim (cases_Bool (b == 10)) [
        | inl newline ↦ rw (no_space, newline) (λ e. cc)
        | inr no_newline ↦ elim (cases_Bool (b == 92)) [
          | inl backslash ↦ rw (no_space, no_newline, backslash) (λ e. cc)
          | inr no_backslash ↦ elim (cases_Bool (nat_le 33 b && nat_le b 126)) [
            | inl printable ↦ rw (no_space, no_newline, no_backslash, printable) (λ e. cc)
            | inr hidden ↦ rw (no_space, no_newline, no_backslash, hidden) (λ e. cc)
          ]
        ]
      ]
    ]

    byte_some : (c : ℕ) → spelled_byte true b ≡ [] → ⊥
    byte_some c = elim (cases_Bool (is_joint true b)) [ inl is ↦ rw is (λ e. cc) | inr plain ↦ rw plain escaped_some ]

    some : (s t : List ℕ) → (s ≡ [] → ⊥) → s ++ t ≡ [] → ⊥
    some [] t there is = there refl
    some (x ∷ s) t there is = cc
