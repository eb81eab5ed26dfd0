-- A byte by an escape.
use Rattle.std.proofs.Common.{◌≡◌, ◌∷◌, [], ℕ, append-nil}
use Rattle.hurd_words.specs.Escapes.{escaped, escaped_byte}

pub one_escaped : (b : ℕ) → escaped (b ∷ []) ≡ escaped_byte b
unfolding escaped
one_escaped b = append-nil (escaped_byte b)
