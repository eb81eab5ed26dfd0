-- What is said of a bad line: where it is and why it is bad, and below that the line itself.
use Rattle.std.specs.Prelude.{ℕ, ◌-◌, ◌==◌, ◌++◌, List, [], ◌∷◌, Option, Some, codes, decimal, get_or, if◌then◌else◌, length, map, nat_lt, take}
use Rattle.std.specs.List.{concat}
use Rattle.hurd_words.specs.Escapes.{escaped_byte}
use Rattle.hurd_words.specs.Lines.{lines_of}
use Rattle.hurd_words.specs.Printing.{text_if}

-- a line of a text, by its number, counted from 1
abbrev pub line_at : List ℕ → ℕ → List ℕ
line_at text number = get_or (lines_of text) (number - 1) []

-- a byte of a line as it is shown: a space as it is, another with the escapes of lists
abbrev pub shown_byte : ℕ → List ℕ
shown_byte b = if b == 32 then 32 ∷ [] else escaped_byte b

unfoldable pub shown : List ℕ → List ℕ
shown bytes = concat (map shown_byte bytes)

-- a line as it is shown: its first 200 bytes, and dots where there are more
abbrev pub shown_line : List ℕ → List ℕ
shown_line line = shown (take 200 line) ++ text_if (nat_lt 200 (length line)) (codes " ..")

-- what is said after a file's name of a bad line: its number, what the text is, a reason, and the line
abbrev pub complaint_on : List ℕ → List ℕ → ℕ → List ℕ → List ℕ
complaint_on noun line number reason = codes ":" ++ (decimal number ++ (noun ++ (reason ++ (codes "\n  " ++ (shown_line line ++ codes "\n")))))

-- the same of the line with this number of a text; at line 0 the reason alone
abbrev pub complaint_at : List ℕ → List ℕ → ℕ → List ℕ → List ℕ
complaint_at noun text line reason =
    if line == 0 then codes ": " ++ (reason ++ codes "\n")
    else complaint_on noun (line_at text line) line reason

-- the same of a text that may be bad, at this line and for this reason
abbrev pub complaint_by : List ℕ → List ℕ → Option ℕ → Option (List ℕ) → List ℕ
complaint_by noun text (Some line) (Some reason) = complaint_at noun text line reason
complaint_by noun text _ _ = []
