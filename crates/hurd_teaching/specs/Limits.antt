-- What is printed of what is learned and of what is seen, if that is limited.
use Rattle.std.specs.Prelude.{◌≡◌, ℕ, ◌-◌, ◌==◌, true, List, [], ◌∷◌, ◌++◌, Option, Some, None, if◌then◌else◌, codes, decimal, length, map, nat_lt, take}
use Rattle.std.specs.List.{list_any}
use Rattle.hurd_creds.specs.declared.name.TaskId.{TaskId}
use Rattle.hurd_lessons.specs.Told.{Said}
use Rattle.hurd_words.specs.Turns.{is_line}
use Rattle.hurd_teaching.specs.Learners.{Speech, see_of, verb_of}
use Rattle.hurd_teaching.specs.Reading.{AreSentences}

-- the bytes up to the last newline
abbrev pub whole_lines : List ℕ → List ℕ
whole_lines [] = []
whole_lines (b ∷ bs) = if list_any (λ c. c == 10) (b ∷ bs) then b ∷ whole_lines bs else []

-- the whole lines that have room in so many bytes
abbrev pub lines_within : ℕ → List ℕ → List ℕ
lines_within most text = whole_lines (take most text)

-- how many bytes are left out
abbrev pub more_text : ℕ → List ℕ
more_text count = decimal count ++ codes " more bytes, not shown\n"

-- the same on a line about somebody; a place never begins with a digit, so no line about a place is such a one
abbrev pub more_line : List ℕ → ℕ → List ℕ
more_line who count = codes "  " ++ (who ++ (codes ": " ++ more_text count))

-- a text about somebody, of which at most so many bytes are printed: all of it; or, if it is longer, the whole lines that have room, and how many bytes more
-- there are
abbrev pub shortened : Option ℕ → List ℕ → List ℕ → List ℕ
shortened None who text = text
shortened (Some most) who text =
    if nat_lt most (length text) then lines_within most text ++ more_line who (length text - length (lines_within most text)) else text

-- what is printed of what is said and shown
abbrev pub shortened_said : Option ℕ → Speech → Said → Said
shortened_said most who s = record { counts = s.counts; text = shortened most who.learns s.text; shown = shortened most who.sees s.shown }

abbrev pub all_shortened : Option ℕ → Speech → List Said → List Said
all_shortened most who said = map (shortened_said most who) said

-- if what is said and shown is sentences about somebody, whose names are on one line, then so is what is printed of it
abbrev pub ShortenedAreSentences : Type 0
ShortenedAreSentences =
    (tasks : List TaskId) (names : List ℕ) (most : Option ℕ) (who : Speech) (said : List Said) → is_line names ≡ true
    → who.learns ≡ names ++ verb_of tasks → who.sees ≡ names ++ see_of tasks → AreSentences tasks names said → AreSentences tasks names (all_shortened most who said)
