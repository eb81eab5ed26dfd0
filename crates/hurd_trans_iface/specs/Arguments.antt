-- What the words after a program's name say, as several kinds of servers take them.
use Rattle.std.specs.Prelude.{ℕ, ◌==◌, Bool, true, false, not, if◌then◌else◌, List, [], ◌∷◌, length, take, drop, Option, Some, None, Result, Ok, Err}
use Rattle.std.specs.Str.{bytes_eq}
use Rattle.hurd_creds.specs.declared.errno.Errno.{Errno}
use Rattle.hurd_creds.specs.declared.errno.Errno.TheVariants.{EINVAL}

-- what a word has after its first bytes, where these are so
abbrev pub behind : List ℕ → List ℕ → Option (List ℕ)
behind first word = if bytes_eq (take (length first) word) first then Some (drop (length first) word) else None

-- no zero comes before other digits
abbrev pub is_bare : List ℕ → Bool
is_bare (b ∷ c ∷ ds) = not (b == 48)
is_bare ds = true

-- no bytes
abbrev pub is_empty : List ℕ → Bool
is_empty [] = true
is_empty (b ∷ bs) = false

-- an empty text, where there are no more words
abbrev pub no_text : List (List ℕ) → Option (List ℕ)
no_text [] = Some []
no_text (w ∷ ws) = None

-- one word, which is the text where it is such a one
abbrev pub one_word : (List ℕ → Bool) → List (List ℕ) → Option (List ℕ)
one_word is_one (w ∷ []) = if is_one w then Some w else None
one_word is_one _ = None

-- options that a kind without any takes: no words, which change nothing
abbrev pub no_options : List (List ℕ) → Result (Option (List ℕ)) Errno
no_options [] = Ok None
no_options (w ∷ ws) = Err EINVAL
