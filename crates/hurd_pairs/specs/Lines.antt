-- At which line of a text a part of it stands.
use Rattle.std.specs.Prelude.{ℕ, ◌+◌, ◌-◌, List, [], ◌∷◌, Option, drop, if◌then◌else◌, slice_get}
use Rattle.hurd_words.specs.Lines.{is_skipped, lines_of}

-- the numbers of these lines that say something, the first of which has this number
unfoldable pub numbers_from : ℕ → List (List ℕ) → List ℕ
numbers_from n [] = []
numbers_from n (line ∷ lines) = if is_skipped line then numbers_from (n + 1) lines else n ∷ numbers_from (n + 1) lines

-- the line, counted from 1, of the part before which so many stand, if there are so many: the parts of a text are preceded by so many lines that say
-- something, and one
abbrev pub line_before : ℕ → List ℕ → ℕ → Option ℕ
line_before heading text made = slice_get (drop (heading - 1) (numbers_from 1 (lines_of text))) made
