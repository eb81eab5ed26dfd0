-- Which words are flags.
use Rattle.std.specs.Prelude.{ℕ, ◌==◌, ◌&&◌, Bool, false, not, List, [], ◌∷◌, filter}
use Rattle.hurd_words.specs.Words.{has_bytes}

-- begins with `-`, and is not that byte alone
abbrev pub is_flag_word : List ℕ → Bool
is_flag_word [] = false
is_flag_word (b ∷ bs) = (b == 45) && has_bytes bs

-- the words that are flags
abbrev pub flags_of : List (List ℕ) → List (List ℕ)
flags_of words = filter is_flag_word words

-- the words that are none
abbrev pub operands_of : List (List ℕ) → List (List ℕ)
operands_of words = filter (λ word. not (is_flag_word word)) words
