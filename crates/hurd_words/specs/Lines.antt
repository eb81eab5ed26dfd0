-- The lines of a text.
use Rattle.std.specs.Prelude.{ℕ, ◌==◌, ◌||◌, Bool, false, if◌then◌else◌, List, [], ◌∷◌, ◌++◌, reverse}
use Rattle.std.specs.List.{list_all, slice_split}

-- the parts of a script between its newlines, byte 0x0A; after a last newline stands an empty one, which is skipped
abbrev pub lines_of : List ℕ → List (List ℕ)
lines_of script = slice_split (λ b. b == 10) script

-- the first byte is `#`
abbrev pub is_comment : List ℕ → Bool
is_comment [] = false
is_comment (b ∷ bs) = b == 35

-- nothing, or spaces alone
abbrev pub is_blank : List ℕ → Bool
is_blank line = list_all (λ b. b == 32) line

-- such a line says nothing
abbrev pub is_skipped : List ℕ → Bool
is_skipped line = is_comment line || is_blank line

-- a line, and the lines before it
pub record Turn : Type 0 where
  pub earlier : List (List ℕ)
  pub line : List ℕ

-- these lines in turn, where others came before
abbrev pub turns_after : List (List ℕ) → List (List ℕ) → List Turn
turns_after earlier [] = []
turns_after earlier (line ∷ lines) = record { earlier = earlier; line = line } ∷ turns_after (earlier ++ line ∷ []) lines

-- each line of a script, with those before it
abbrev pub turns : List (List ℕ) → List Turn
turns lines = turns_after [] lines

-- the line without the spaces that it begins with
abbrev pub skip_spaces : List ℕ → List ℕ
skip_spaces [] = []
skip_spaces (b ∷ bs) = if b == 32 then skip_spaces bs else b ∷ bs

-- the line from its first space on
abbrev pub skip_word : List ℕ → List ℕ
skip_word [] = []
skip_word (b ∷ bs) = if b == 32 then b ∷ bs else skip_word bs

-- the line without the spaces that it ends with
abbrev pub without_end : List ℕ → List ℕ
without_end line = reverse (skip_spaces (reverse line))
