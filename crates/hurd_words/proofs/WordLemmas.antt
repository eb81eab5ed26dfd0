-- The bytes of a word, and the words of a line.
use Rattle.std.proofs.Common.{if◌then◌else◌, ℕ, ◌≡◌, ◌≢◌, ◌≤◌, ◌<◌, ◌+◌, ◌++◌, ◌∷◌, [], List, Option, Some, None, true, false, refl, sym, ◌∙◌, ap, append-nil, drop, get_or, is_none, length}
use Rattle.std.proofs.lemmas.List.{at_drop_all, at_drop_more}
use Rattle.std.proofs.lemmas.Bool.{eq-eqb, ne_eqb, or_parts}
use Rattle.hurd_words.specs.Words.{Spelling, escape_code, has_hidden_byte, is_hidden, onto, text_after}
use Rattle.hurd_words.proofs.Loops.{behind-push, nothing_in_front}
use Rattle.hurd_words.specs.Reading.{behind, good_word}

-- a byte after no backslash, and one after a backslash
pub at_backslash : (b : ℕ) (bs : List ℕ) → b ≡ 92 → text_after false (b ∷ bs) ≡ text_after true bs
unfolding text_after
at_backslash b bs e = rw (eq-eqb b 92 e) refl

at_plain : (b : ℕ) (bs : List ℕ) → b ≢ 92 → text_after false (b ∷ bs) ≡ onto (Some b) (text_after false bs)
unfolding text_after
at_plain b bs e = rw (ne_eqb b 92 e) refl

at_escape : (b : ℕ) (bs : List ℕ) → text_after true (b ∷ bs) ≡ onto (escape_code b) (text_after false bs)
unfolding text_after
at_escape b bs = refl

-- a byte is taken, whatever follows it
pub plain_taken : (b : ℕ) (text new rest : List ℕ) → b ≢ 92 → new ≡ text ++ b ∷ [] → behind text (text_after false (b ∷ rest)) ≡ behind new (text_after false rest)
plain_taken b text new rest e n = ap (behind text) (at_plain b rest e) ∙ (behind-push text b (text_after false rest) ∙ ap (λ (t : List ℕ). behind t (text_after false rest)) (sym n))

pub escape_taken : (b code : ℕ) (text new rest : List ℕ) → Some code ≡ escape_code b → new ≡ text ++ code ∷ [] → behind text (text_after true (b ∷ rest)) ≡ behind new (text_after false rest)
escape_taken b code text new rest e n =
    ap (behind text) (at_escape b rest ∙ ap (λ (o : Option ℕ). onto o (text_after false rest)) (sym e))
    ∙ (behind-push text code (text_after false rest) ∙ ap (λ (t : List ℕ). behind t (text_after false rest)) (sym n))

pub escape_refused : (b : ℕ) (rest : List ℕ) → None ≡ escape_code b → text_after true (b ∷ rest) ≡ None
escape_refused b rest e = at_escape b rest ∙ ap (λ (o : Option ℕ). onto o (text_after false rest)) (sym e)

none_where_none : {X : Type 0} (o : Option X) → (if is_none o then None else o) ≡ o
none_where_none None = refl
none_where_none (Some x) = refl

-- a word with no hidden byte is good where it is well spelled
pub visible : (spelling : Spelling) (word : List ℕ) → has_hidden_byte word ≡ false → good_word spelling word ≡ spelling word
visible spelling word h = rw h (none_where_none (spelling word))

pub hidden_word : (spelling : Spelling) (word : List ℕ) → has_hidden_byte word ≡ true → good_word spelling word ≡ None
hidden_word spelling word h = rw h refl

-- the next byte, and those after it
pub next_visible : (word : List ℕ) (i : ℕ) → i < length word → has_hidden_byte (drop i word) ≡ false
    → (is_hidden (get_or word i 0) ≡ false) × (has_hidden_byte (drop (i + 1) word) ≡ false)
next_visible word i h v = or_parts _ _ (sym (at_drop_more has_hidden_byte word i 0 h) ∙ v)

-- a way to spell by what comes after a state, as after a backslash
module _ {S : Type 0} (after : S → Spelling) where
  -- nothing was read yet
  pub word_begun : (state : S) (word bytes : List ℕ) → bytes ≡ [] → behind bytes (after state word) ≡ after state word
  word_begun state word bytes none = rw none (nothing_in_front (after state word))

  -- a byte was read
  pub byte_read : (state next : S) (word before new : List ℕ) (i : ℕ) (all : Option (List ℕ)) → i < length word
      → ((rest : List ℕ) → behind before (after state (get_or word i 0 ∷ rest)) ≡ behind new (after next rest))
      → behind before (after state (drop i word)) ≡ all → behind new (after next (drop (i + 1) word)) ≡ all
  byte_read state next word before new i all h step so_far =
      sym (at_drop_more (λ bs. behind before (after state bs)) word i 0 h ∙ step (drop (i + 1) word)) ∙ so_far

  -- a byte was bad
  pub byte_refused : (state begin : S) (word before : List ℕ) (i : ℕ) → has_hidden_byte word ≡ false → i < length word
      → behind before (after state (drop i word)) ≡ after begin word → ((rest : List ℕ) → after state (get_or word i 0 ∷ rest) ≡ None)
      → good_word (after begin) word ≡ None
  byte_refused state begin word before i v h so_far none =
      visible (after begin) word v ∙ (sym so_far ∙ ap (behind before) (at_drop_more (after state) word i 0 h ∙ none (drop (i + 1) word)))

  word_ended : (state : S) (word before : List ℕ) (i : ℕ) → length word ≤ i → behind before (after state (drop i word)) ≡ behind before (after state [])
  word_ended state word before i h = ap (behind before) (at_drop_all (after state) word i h)

  -- the end of a word
  pub word_whole : (state begin : S) (word before : List ℕ) (i : ℕ) → after state [] ≡ Some [] → has_hidden_byte word ≡ false → length word ≤ i
      → behind before (after state (drop i word)) ≡ after begin word → good_word (after begin) word ≡ Some before
  word_whole state begin word before i end v h so_far =
      visible (after begin) word v ∙ (sym so_far ∙ (word_ended state word before i h ∙ (ap (behind before) end ∙ ap Some (append-nil before))))

  -- the end of a word, where more should follow
  pub word_open : (state begin : S) (word before : List ℕ) (i : ℕ) → after state [] ≡ None → has_hidden_byte word ≡ false → length word ≤ i
      → behind before (after state (drop i word)) ≡ after begin word → good_word (after begin) word ≡ None
  word_open state begin word before i end v h so_far =
      visible (after begin) word v ∙ (sym so_far ∙ (word_ended state word before i h ∙ ap (behind before) end))

pub text_whole : text_after false [] ≡ Some []
unfolding text_after
text_whole = refl

pub text_open : text_after true [] ≡ None
unfolding text_after
text_open = refl
