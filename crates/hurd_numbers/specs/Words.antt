-- Words as bytes: each ends with a zero byte.
use Rattle.std.specs.Prelude.{ℕ, ◌-◌, ◌==◌, Bool, not, List, [], ◌∷◌, ◌++◌, Option, Some, None, if◌then◌else◌, drop, get_or, length, nat_le, option_and_then, take}
use Rattle.std.specs.List.{slice_split}
use Rattle.hurd_creds.specs.Access.{IdSets}
use Rattle.hurd_lists.specs.Arguments.{ids_of}

-- whether a piece has any bytes
abbrev pub is_some_text : List (List ℕ) → ℕ → Bool
is_some_text pieces number = not (length (get_or pieces number []) == 0)

-- the pieces between zero bytes are words, if nothing comes after the last zero byte
abbrev pub words_of : List (List ℕ) → Option (List (List ℕ))
words_of pieces = if is_some_text pieces (length pieces - 1) then None else Some (take (length pieces - 1) pieces)

-- the words of bytes, each ended by a zero byte
abbrev pub words_in : List ℕ → Option (List (List ℕ))
words_in bytes = words_of (slice_split (λ b. b == 0) bytes)

-- the first of some words, and the words after them, if there are so many
abbrev pub first_of : ℕ → List (List ℕ) → Option (List (List ℕ))
first_of count words = if nat_le count (length words) then Some (take count words) else None

abbrev pub after_first : ℕ → List (List ℕ) → Option (List (List ℕ))
after_first count words = if nat_le count (length words) then Some (drop count words) else None

-- the ids of two words: uids and gids, as a list of calls has them
abbrev pub ids_by : List (List ℕ) → Option IdSets
ids_by (uids ∷ gids ∷ []) = ids_of uids gids
ids_by _ = None

abbrev pub ids_at : List ℕ → Option IdSets
ids_at bytes = option_and_then ids_by (words_in bytes)

-- words one after another, each ended by a zero byte
abbrev pub zero_ended : List (List ℕ) → List ℕ
zero_ended [] = []
zero_ended (word ∷ words) = (word ++ 0 ∷ []) ++ zero_ended words
