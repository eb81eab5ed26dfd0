-- The bytes of a word.
use Rattle.std.proofs.Common.{ℕ, ◌≡◌, ◌≢◌, ◌⊎◌, inl, inr, ◌++◌, ◌∷◌, [], List, Option, Some, None, refl, sym, ◌∙◌, ap}
use Rattle.std.proofs.lemmas.Bool.{eq-eqb, ne_eqb}
use Rattle.hurd_words.specs.Reading.{behind}
use Rattle.hurd_words.specs.Words.{escape_code, onto}
use Rattle.hurd_words.proofs.Loops.{behind-push}
use Rattle.hurd_lists.specs.Words.{bytes_after, hex_byte}
use Rattle.hurd_lists.specs.declared.words.Escape.{Escape}
use Rattle.hurd_lists.specs.declared.words.Escape.TheVariants.{Plain, Begun, Hex, Half}

-- a byte where an escape has come so far
pub at_backslash : (b : ℕ) (bs : List ℕ) → b ≡ 92 → bytes_after Plain (b ∷ bs) ≡ bytes_after Begun bs
unfolding bytes_after
at_backslash b bs e = rw (eq-eqb b 92 e) refl

at_plain : (b : ℕ) (bs : List ℕ) → b ≢ 92 → bytes_after Plain (b ∷ bs) ≡ onto (Some b) (bytes_after Plain bs)
unfolding bytes_after
at_plain b bs e = rw (ne_eqb b 92 e) refl

pub at_hex : (b : ℕ) (bs : List ℕ) → b ≡ 120 → bytes_after Begun (b ∷ bs) ≡ bytes_after Hex bs
unfolding bytes_after
at_hex b bs e = rw (eq-eqb b 120 e) refl

at_code : (b : ℕ) (bs : List ℕ) → b ≢ 120 → bytes_after Begun (b ∷ bs) ≡ onto (escape_code b) (bytes_after Plain bs)
unfolding bytes_after
at_code b bs e = rw (ne_eqb b 120 e) refl

pub at_high : (b : ℕ) (bs : List ℕ) → bytes_after Hex (b ∷ bs) ≡ bytes_after (Half b) bs
unfolding bytes_after
at_high b bs = refl

at_low : (high b : ℕ) (bs : List ℕ) → bytes_after (Half high) (b ∷ bs) ≡ onto (hex_byte high b) (bytes_after Plain bs)
unfolding bytes_after
at_low high b bs = refl

-- a byte more is read, whatever follows it
onto_taken : (code : ℕ) (o : Option ℕ) (bytes new rest : List ℕ) → Some code ≡ o → new ≡ bytes ++ code ∷ []
    → behind bytes (onto o (bytes_after Plain rest)) ≡ behind new (bytes_after Plain rest)
onto_taken code o bytes new rest e n =
    ap (λ (p : Option ℕ). behind bytes (onto p (bytes_after Plain rest))) (sym e)
    ∙ (behind-push bytes code (bytes_after Plain rest) ∙ ap (λ (t : List ℕ). behind t (bytes_after Plain rest)) (sym n))

onto_refused : (o : Option ℕ) (rest : List ℕ) → None ≡ o → onto o (bytes_after Plain rest) ≡ None
onto_refused o rest e = ap (λ (p : Option ℕ). onto p (bytes_after Plain rest)) (sym e)

pub plain_taken : (b : ℕ) (bytes new rest : List ℕ) → b ≢ 92 → new ≡ bytes ++ b ∷ [] → behind bytes (bytes_after Plain (b ∷ rest)) ≡ behind new (bytes_after Plain rest)
plain_taken b bytes new rest e n = ap (behind bytes) (at_plain b rest e) ∙ onto_taken b (Some b) bytes new rest refl n

pub code_taken : (b code : ℕ) (bytes new rest : List ℕ) → b ≢ 120 → Some code ≡ escape_code b → new ≡ bytes ++ code ∷ [] → behind bytes (bytes_after Begun (b ∷ rest)) ≡ behind new (bytes_after Plain rest)
code_taken b code bytes new rest h e n = ap (behind bytes) (at_code b rest h) ∙ onto_taken code (escape_code b) bytes new rest e n

pub code_refused : (b : ℕ) (rest : List ℕ) → b ≢ 120 → None ≡ escape_code b → bytes_after Begun (b ∷ rest) ≡ None
code_refused b rest h e = at_code b rest h ∙ onto_refused (escape_code b) rest e

pub pair_taken : (high b code : ℕ) (bytes new rest : List ℕ) → Some code ≡ hex_byte high b → new ≡ bytes ++ code ∷ [] → behind bytes (bytes_after (Half high) (b ∷ rest)) ≡ behind new (bytes_after Plain rest)
pair_taken high b code bytes new rest e n = ap (behind bytes) (at_low high b rest) ∙ onto_taken code (hex_byte high b) bytes new rest e n

pub pair_refused : (high b : ℕ) (rest : List ℕ) → None ≡ hex_byte high b → bytes_after (Half high) (b ∷ rest) ≡ None
pair_refused high b rest e = at_low high b rest ∙ onto_refused (hex_byte high b) rest e

-- the end of a word
pub ends_plain : bytes_after Plain [] ≡ Some []
unfolding bytes_after
ends_plain = refl

pub left_open : (e : Escape) → (e ≡ Begun) ⊎ ((e ≡ Hex) ⊎ ((high : ℕ) × (e ≡ Half high))) → bytes_after e [] ≡ None
unfolding bytes_after
left_open _ (inl is) = rw is refl
left_open _ (inr (inl is)) = rw is refl
left_open _ (inr (inr (high, is))) = rw is refl
