-- What the functions of the reader say of each other.
use Rattle.std.specs.Prelude.{◌≡◌, ℕ, List, ◌∷◌, Option, Some, None}
use Rattle.hurd_words.specs.Reading.{behind}
use Rattle.hurd_lists.specs.Words.{bytes_after}
use Rattle.hurd_lists.specs.declared.words.Escape.{Escape}

-- what follows, where something was read
infixl 10 ◌>>=◌
abbrev pub ◌>>=◌ : {A B : Type 0} → Option A → (A → Option B) → Option B
None >>= f = None
(Some x) >>= f = f x

-- a byte of a word is read, where an escape has come so far, whatever bytes follow it
abbrev pub TakesByte : Escape → ℕ → Escape → List ℕ → List ℕ → Type 0
TakesByte escape byte next before after =
    (rest : List ℕ) → behind before (bytes_after escape (byte ∷ rest)) ≡ behind after (bytes_after next rest)

-- a byte of a word is bad, whatever bytes follow it
abbrev pub RefusesByte : Escape → ℕ → Type 0
RefusesByte escape byte = (rest : List ℕ) → bytes_after escape (byte ∷ rest) ≡ None
