-- Bytes are spelled in one way.
use Rattle.std.proofs.Common.{◌≡◌, ◌≢◌, ◌⊎◌, inl, inr, ◌∙◌, refl, sym, ap, subst, ℕ, ◌+◌, ◌-◌, ◌/◌, ◌%◌, ◌==◌, ◌&&◌, Bool, true, false, true≢false, List, [], ◌∷◌, ◌++◌, arith, nat_lt, nat_le, if◌then◌else◌}
use Rattle.std.proofs.lemmas.Bool.{cases_Bool, eqb-true, eq-eqb, ltb-true as below, ltb-false as above}
use Rattle.hurd_words.specs.Escapes.{escaped_byte, hex_letter}
use Rattle.hurd_words.specs.Spelling.{is_joint, spelled_by, spelled_byte}
use Rattle.hurd_words.specs.Turns.{SpellsBack}
use Rattle.hurd_words.proofs.Bytes.{first_same}
use Rattle.hurd_words.proofs.SpellingLaws.{more_bytes, no_bytes}

-- the shapes in which a byte is spelled: as it is, by a letter after a backslash, and by its number
pub data Shape (b : ℕ) : List ℕ → Type 0 where
  Plain : b ≢ 92 → Shape b (b ∷ [])
  Short : (c : ℕ) → ((c ≡ 115) × (b ≡ 32)) ⊎ (((c ≡ 110) × (b ≡ 10)) ⊎ ((c ≡ 92) × (b ≡ 92))) → Shape b (92 ∷ c ∷ [])
  Long : Shape b (92 ∷ 120 ∷ hex_letter (b / 16) ∷ hex_letter (b % 16) ∷ [])

-- a hexadecimal digit is that of one number
letter_once : (a b : ℕ) → hex_letter a ≡ hex_letter b → a ≡ b
letter_once a b is = go (nat_lt a 10) (nat_lt b 10) refl refl is
  where
    go : (s t : Bool) → nat_lt a 10 ≡ s → nat_lt b 10 ≡ t → (if s then 48 + a else 97 + (a - 10)) ≡ (if t then 48 + b else 97 + (b - 10)) → a ≡ b
    go true true x y is = omega (arith, is)
    go true false x y is = let p = below a 10 x in let q = above b 10 y in omega (arith, is, p, q)
    go false true x y is = let p = above a 10 x in let q = below b 10 y in omega (arith, is, p, q)
    go false false x y is = let p = above a 10 x in let q = above b 10 y in omega (arith, is, p, q)

not_that : (b d : ℕ) → (b == d) ≡ false → b ≢ d
not_that b d differ same = true≢false (sym (eq-eqb b d same) ∙ differ)

escaped_shape : (b : ℕ) → Shape b (escaped_byte b)
escaped_shape b = elim (cases_Bool (b == 32)) [
  | inl space ↦ rw space (Short 115 (inl (refl, eqb-true b 32 space)))
  | inr no_space ↦ elim (cases_Bool (b == 10)) [
    | inl newline ↦ rw (no_space, newline) (Short 110 (inr (inl (refl, eqb-true b 10 newline))))
    | inr no_newline ↦ elim (cases_Bool (b == 92)) [
      | inl backslash ↦ rw (no_space, no_newline, backslash) (Short 92 (inr (inr (refl, eqb-true b 92 backslash))))
      | inr no_backslash ↦ elim (cases_Bool (nat_le 33 b && nat_le b 126)) [
        | inl printable ↦ rw (no_space, no_newline, no_backslash, printable) (Plain (not_that b 92 no_backslash))
        | inr hidden ↦ rw (no_space, no_newline, no_backslash, hidden) Long
      ]
    ]
  ]
]

shape_of : (path : Bool) (b : ℕ) → Shape b (spelled_byte path b)
shape_of path b = elim (cases_Bool (is_joint path b)) [ inl is ↦ rw is Long | inr plain ↦ rw plain (escaped_shape b) ]

-- the letter after a backslash, and the byte that it stands for
abbrev pub Stands : ℕ → ℕ → Type 0
Stands b c = ((c ≡ 115) × (b ≡ 32)) ⊎ (((c ≡ 110) × (b ≡ 10)) ⊎ ((c ≡ 92) × (b ≡ 92)))

stands_once : (a b c : ℕ) → Stands a c → Stands b c → a ≡ b
stands_once a b c (inl x) (inl y) = x.1 ∙ sym y.1
stands_once a b c (inl x) (inr (inl y)) = let p = x.0 in let q = y.0 in absurd (omega (arith, p, q))
stands_once a b c (inl x) (inr (inr y)) = let p = x.0 in let q = y.0 in absurd (omega (arith, p, q))
stands_once a b c (inr (inl x)) (inl y) = let p = x.0 in let q = y.0 in absurd (omega (arith, p, q))
stands_once a b c (inr (inl x)) (inr (inl y)) = x.1 ∙ sym y.1
stands_once a b c (inr (inl x)) (inr (inr y)) = let p = x.0 in let q = y.0 in absurd (omega (arith, p, q))
stands_once a b c (inr (inr x)) (inl y) = let p = x.0 in let q = y.0 in absurd (omega (arith, p, q))
stands_once a b c (inr (inr x)) (inr (inl y)) = let p = x.0 in let q = y.0 in absurd (omega (arith, p, q))
stands_once a b c (inr (inr x)) (inr (inr y)) = x.1 ∙ sym y.1

no_x : (b : ℕ) → Stands b 120 → ⊥
no_x b (inl x) = let p = x.0 in omega (arith, p)
no_x b (inr (inl x)) = let p = x.0 in omega (arith, p)
no_x b (inr (inr x)) = let p = x.0 in omega (arith, p)

-- what is spelled first is one byte
byte_once : (a b : ℕ) (x y r s : List ℕ) → Shape a x → Shape b y → x ++ r ≡ y ++ s → (a ≡ b) × (r ≡ s)
byte_once a b _ _ r s (Plain p) (Plain q) is = first_same a b r s is
byte_once a b _ _ r s (Plain p) (Short d e) is = absurd (p (first_same a 92 r (d ∷ s) is).0)
byte_once a b _ _ r s (Plain p) Long is = absurd (p (first_same a 92 r _ is).0)
byte_once a b _ _ r s (Short c e) (Plain q) is = absurd (q (sym (first_same 92 b (c ∷ r) s is).0))
byte_once a b _ _ r s (Short c e) (Short d f) is =
    let both = first_same c d r s (first_same 92 92 (c ∷ r) (d ∷ s) is).1 in
    (stands_once a b d (subst (Stands a) both.0 e) f, both.1)
byte_once a b _ _ r s (Short c e) Long is = absurd (no_x a (subst (Stands a) (first_same c 120 r _ (first_same 92 92 (c ∷ r) _ is).1).0 e))
byte_once a b _ _ r s Long (Plain q) is = absurd (q (sym (first_same 92 b _ s is).0))
byte_once a b _ _ r s Long (Short d f) is = absurd (no_x b (subst (Stands b) (sym (first_same 120 d _ s (first_same 92 92 _ (d ∷ s) is).1).0) f))
byte_once a b _ _ r s Long Long is =
    let front = first_same 120 120 _ _ (first_same 92 92 _ _ is).1 in
    let high = first_same (hex_letter (a / 16)) (hex_letter (b / 16)) _ _ front.1 in
    let low = first_same (hex_letter (a % 16)) (hex_letter (b % 16)) r s high.1 in
    (whole (letter_once (a / 16) (b / 16) high.0) (letter_once (a % 16) (b % 16) low.0), low.1)
  where
    whole : a / 16 ≡ b / 16 → a % 16 ≡ b % 16 → a ≡ b
    whole h l = omega (arith, h, l)

none_spelled : (path : Bool) (b : ℕ) (bs : List ℕ) → [] ≡ spelled_byte path b ++ spelled_by path bs → ⊥
none_spelled path b bs is = go (spelled_byte path b) (shape_of path b) is
  where
    go : (x : List ℕ) → Shape b x → [] ≡ x ++ spelled_by path bs → ⊥
    go _ (Plain p) none = absurd (cc)
    go _ (Short c e) none = absurd (cc)
    go _ Long none = absurd (cc)

pub spells_back : SpellsBack
spells_back path [] [] is = refl
spells_back path [] (b ∷ w) is = absurd (none_spelled path b w (sym (no_bytes path) ∙ (is ∙ more_bytes path b w)))
spells_back path (a ∷ v) [] is = absurd (none_spelled path a v (sym (no_bytes path) ∙ (sym is ∙ more_bytes path a v)))
spells_back path (a ∷ v) (b ∷ w) is =
    let both = byte_once a b _ _ (spelled_by path v) (spelled_by path w) (shape_of path a) (shape_of path b) (sym (more_bytes path a v) ∙ (is ∙ more_bytes path b w)) in
    ap (λ (c : ℕ). c ∷ v) both.0 ∙ ap (λ (t : List ℕ). b ∷ t) (spells_back path v w both.1)
