-- Bytes as they are spelled, one after another.
use Rattle.std.proofs.Common.{◌≡◌, ◌<◌, ◌≤◌, ◌+◌, ◌++◌, ◌∷◌, [], ℕ, List, refl, sym, ◌∙◌, ap, append_assoc, append-nil, drop, get_or, length, false, if◌then◌else◌}
use Rattle.std.specs.Prelude.{Bool}
use Rattle.std.proofs.lemmas.List.{at_drop_all, at_drop_more}
use Rattle.hurd_words.specs.Escapes.{escaped, escaped_byte}
use Rattle.hurd_words.specs.Spelling.{by_number, is_joint, spelled_by, spelled_byte}

-- one byte with its escape
pub one_escaped : (b : ℕ) → escaped (b ∷ []) ≡ escaped_byte b
unfolding escaped
one_escaped b = append-nil (escaped_byte b)

-- a byte that is no joint has its escape
pub unjoined : (path : Bool) (b : ℕ) → false ≡ is_joint path b → escaped (b ∷ []) ≡ spelled_byte path b
unjoined path b none = one_escaped b ∙ ap (λ (t : Bool). if t then by_number b else escaped_byte b) none

pub more_bytes : (path : Bool) (b : ℕ) (bs : List ℕ) → spelled_by path (b ∷ bs) ≡ spelled_byte path b ++ spelled_by path bs
unfolding spelled_by
more_bytes path b bs = refl

pub no_bytes : (path : Bool) → spelled_by path [] ≡ []
unfolding spelled_by
no_bytes path = refl

-- the next byte was spelled
pub bytes_next : (path : Bool) (front new bytes : List ℕ) (i : ℕ) → i < length bytes → new ≡ front ++ spelled_byte path (get_or bytes i 0)
    → new ++ spelled_by path (drop (i + 1) bytes) ≡ front ++ spelled_by path (drop i bytes)
bytes_next path front new bytes i h e =
    ap (λ (n : List ℕ). n ++ spelled_by path (drop (i + 1) bytes)) e
    ∙ (append_assoc front (spelled_byte path (get_or bytes i 0)) (spelled_by path (drop (i + 1) bytes))
    ∙ ap (λ (t : List ℕ). front ++ t) (sym (at_drop_more (spelled_by path) bytes i 0 h ∙ more_bytes path (get_or bytes i 0) (drop (i + 1) bytes))))

pub bytes_ended : (path : Bool) (front bytes : List ℕ) (i : ℕ) → length bytes ≤ i → front ++ spelled_by path (drop i bytes) ≡ front
bytes_ended path front bytes i h = ap (λ (t : List ℕ). front ++ t) (at_drop_all (spelled_by path) bytes i h ∙ no_bytes path) ∙ append-nil front
