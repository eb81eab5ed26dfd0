-- Bytes as they are printed.
use Rattle.std.proofs.Common.{◌≡◌, ◌<◌, ◌≤◌, ◌+◌, ◌++◌, ◌∷◌, [], ℕ, List, refl, sym, ◌∙◌, ap, append_assoc, append-nil, drop, get_or, length}
use Rattle.std.proofs.lemmas.List.{at_drop_all, at_drop_more}
use Rattle.hurd_words.specs.Escapes.{escaped, escaped_byte}

more_bytes : (b : ℕ) (bs : List ℕ) → escaped (b ∷ bs) ≡ escaped_byte b ++ escaped bs
unfolding escaped
more_bytes b bs = refl

-- the next byte was printed
pub bytes_next : (front new bytes : List ℕ) (i : ℕ) → i < length bytes → new ≡ front ++ escaped_byte (get_or bytes i 0)
    → new ++ escaped (drop (i + 1) bytes) ≡ front ++ escaped (drop i bytes)
bytes_next front new bytes i h e =
    ap (λ (n : List ℕ). n ++ escaped (drop (i + 1) bytes)) e
    ∙ (append_assoc front (escaped_byte (get_or bytes i 0)) (escaped (drop (i + 1) bytes))
    ∙ ap (λ (t : List ℕ). front ++ t) (sym (at_drop_more escaped bytes i 0 h ∙ more_bytes (get_or bytes i 0) (drop (i + 1) bytes))))

no_bytes : escaped [] ≡ []
unfolding escaped
no_bytes = refl

pub bytes_ended : (front bytes : List ℕ) (i : ℕ) → length bytes ≤ i → front ++ escaped (drop i bytes) ≡ front
bytes_ended front bytes i h = ap (λ (t : List ℕ). front ++ t) (at_drop_all escaped bytes i h ∙ no_bytes) ∙ append-nil front
