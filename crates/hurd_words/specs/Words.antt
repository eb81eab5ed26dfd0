-- The words of a line.
use Rattle.std.specs.Prelude.{ℕ, ◌==◌, ◌&&◌, ◌||◌, Bool, true, false, not, List, [], ◌∷◌, Option, Some, None, if◌then◌else◌, nat_le, option_map, filter, filter_map, is_none}
use Rattle.std.specs.List.{list_any, slice_split}

-- not empty
abbrev pub has_bytes : List ℕ → Bool
has_bytes [] = false
has_bytes (b ∷ bs) = true

-- what stands between the spaces of a line, as it is written
abbrev pub written_words : List ℕ → List (List ℕ)
written_words line = filter has_bytes (slice_split (λ b. b == 32) line)

-- a byte that no word has: a word is of printable ASCII, 0x21 to 0x7E
abbrev pub is_hidden : ℕ → Bool
is_hidden b = not (nat_le 33 b && nat_le b 126)

-- what a byte after a backslash stands for: `s` a space, `n` a newline, and the backslash itself
abbrev pub escape_code : ℕ → Option ℕ
escape_code b = if b == 115 then Some 32 else if b == 110 then Some 10 else if b == 92 then Some 92 else None

-- a number in front of numbers, as a byte of a text, where there are both
abbrev pub onto : Option ℕ → Option (List ℕ) → Option (List ℕ)
onto (Some n) numbers = option_map (λ ns. n ∷ ns) numbers
onto None _ = None

-- the text of a word, or of its rest after a backslash
unfoldable pub text_after : Bool → List ℕ → Option (List ℕ)
text_after false [] = Some []
text_after true [] = None
text_after false (b ∷ bs) = if b == 92 then text_after true bs else onto (Some b) (text_after false bs)
text_after true (b ∷ bs) = onto (escape_code b) (text_after false bs)

-- what a word spells, with its escapes resolved, or nothing where a backslash has another use
abbrev pub text_of : List ℕ → Option (List ℕ)
text_of word = text_after false word

-- a byte that is not printable ASCII is in it
abbrev pub has_hidden_byte : List ℕ → Bool
has_hidden_byte word = list_any is_hidden word

-- a way to spell: what a word spells, or nothing where it is badly spelled
abbrev pub Spelling : Type 0
Spelling = List ℕ → Option (List ℕ)

-- not a word: a byte that is not printable ASCII is in it, or it is badly spelled
abbrev pub is_bad_word : Spelling → List ℕ → Bool
is_bad_word spelling word = has_hidden_byte word || is_none (spelling word)

-- what the words of a line spell
abbrev pub words_of : List ℕ → List (List ℕ)
words_of line = filter_map text_of (written_words line)
