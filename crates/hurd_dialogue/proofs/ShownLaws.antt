-- Bytes of a line, as they are shown.
use Rattle.std.proofs.Common.{◌≡◌, ◌≢◌, ◌<◌, ◌≤◌, ◌+◌, ◌++◌, ◌∷◌, [], ℕ, List, refl, sym, ◌∙◌, ap, append_assoc, append-nil, drop, get_or, length}
use Rattle.std.proofs.lemmas.List.{at_drop_all, at_drop_more}
use Rattle.std.proofs.lemmas.Bool.{ne_eqb}
use Rattle.hurd_words.specs.Escapes.{escaped, escaped_byte}
use Rattle.hurd_dialogue.specs.Complaints.{shown, shown_byte}

more_shown : (b : ℕ) (bs : List ℕ) → shown (b ∷ bs) ≡ shown_byte b ++ shown bs
unfolding shown
more_shown b bs = refl

none_shown : shown [] ≡ []
unfolding shown
none_shown = refl

-- the next byte was printed
pub shown_next : (front new bytes : List ℕ) (i : ℕ) → i < length bytes → new ≡ front ++ shown_byte (get_or bytes i 0)
    → new ++ shown (drop (i + 1) bytes) ≡ front ++ shown (drop i bytes)
shown_next front new bytes i h e =
    ap (λ (n : List ℕ). n ++ shown (drop (i + 1) bytes)) e
    ∙ (append_assoc front (shown_byte (get_or bytes i 0)) (shown (drop (i + 1) bytes))
    ∙ ap (λ (t : List ℕ). front ++ t) (sym (at_drop_more shown bytes i 0 h ∙ more_shown (get_or bytes i 0) (drop (i + 1) bytes))))

pub shown_ended : (front bytes : List ℕ) (i : ℕ) → length bytes ≤ i → front ++ shown (drop i bytes) ≡ front
shown_ended front bytes i h = ap (λ (t : List ℕ). front ++ t) (at_drop_all shown bytes i h ∙ none_shown) ∙ append-nil front

-- what is no space is shown with the escapes of lists
as_escaped : (b : ℕ) → b ≢ 32 → shown_byte b ≡ escaped_byte b
as_escaped b other = rw (ne_eqb b 32 other) refl

one_escaped : (b : ℕ) → escaped (b ∷ []) ≡ escaped_byte b
unfolding escaped
one_escaped b = append-nil (escaped_byte b)

pub shown_other : (b : ℕ) → b ≢ 32 → shown_byte b ≡ escaped (b ∷ [])
shown_other b other = as_escaped b other ∙ sym (one_escaped b)
