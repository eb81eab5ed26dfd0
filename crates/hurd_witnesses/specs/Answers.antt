-- What the last command of a text is answered, and how that is shown on one line.
use Rattle.std.specs.Prelude.{ℕ, ◌+◌, ◌-◌, ◌==◌, Bool, true, false, List, [], ◌∷◌, ◌++◌, Option, Some, None, Result, Ok, Err, codes, get_or, if◌then◌else◌, length, map, nat_lt, slice_get, take}
use Rattle.std.specs.List.{concat, last_or}
use Rattle.hurd_creds.specs.Errors.{name_of}
use Rattle.hurd_creds.specs.declared.errno.Errno.{Errno}
use Rattle.hurd_dialogue.specs.Complaints.{shown_byte}
use Rattle.hurd_dialogue.specs.Parts.{answers}
use Rattle.hurd_dialogue.specs.Sorts.{Sort}
use Rattle.hurd_words.specs.Printing.{text_if}
use Rattle.hurd_words.specs.declared.answers.Answer.{Answer}
use Rattle.hurd_words.specs.declared.answers.Content.{Content}
use Rattle.hurd_words.specs.declared.answers.Content.TheVariants.{Text, Names}
use Rattle.hurd_words.specs.declared.answers.Ending.{Ending}
use Rattle.hurd_words.specs.declared.answers.Ending.TheVariants.{Done, Refused, Usage}
use Rattle.hurd_witnesses.specs.declared.shown.Mark.{Mark}
use Rattle.hurd_witnesses.specs.declared.shown.Mark.TheVariants.{Byte, Within}

-- the last answer of a text that is good and may begin
abbrev pub told_last : Option ℕ → Result (Unit {0}) Errno → List Answer → Option Answer
told_last (Some line) boot parts = None
told_last None (Err e) parts = None
told_last None (Ok u) parts = last_or None parts

-- what the last command of a text is answered; nothing where the text is bad
unfoldable pub answer_of : Sort → List ℕ → Option Answer
answer_of sort text = told_last (sort.bad text) (sort.boot text) (answers (sort.parts text))

-- whether a text ends with a newline
abbrev pub is_ended : List ℕ → Bool
is_ended text = get_or text (length text - 1) 0 == 10

-- a text without the newline that it ends with
abbrev pub unended : List ℕ → List ℕ
unended text = if is_ended text then take (length text - 1) text else text

-- what was put out, byte by byte; a newline within a name is another thing than the one after a name
abbrev pub mark_in : ℕ → Mark
mark_in b = if b == 10 then Within else Byte b

abbrev pub marks_of_names : List (List ℕ) → List Mark
marks_of_names [] = []
marks_of_names (name ∷ names) = map mark_in name ++ Byte 10 ∷ marks_of_names names

abbrev pub marks_of : Content → List Mark
marks_of (Text bytes) = map Byte bytes
marks_of (Names names) = marks_of_names names

-- a byte on the line: a space as it is, others with the escapes of lists, and so the two signs by which the program says what it adds
abbrev pub shown_mark : Mark → List ℕ
shown_mark (Byte b) = if b == 40 then codes "\\x28" else if b == 33 then codes "\\x21" else shown_byte b
shown_mark Within = codes "\\x0a"

abbrev pub shown_marks : List Mark → List ℕ
shown_marks marks = concat (map shown_mark marks)

-- the first 200 of them, and dots where there are more
abbrev pub shown_front : List Mark → List ℕ
shown_front marks = shown_marks (take 200 marks) ++ text_if (nat_lt 200 (length marks)) (codes " ..")

-- what ended a command, after an exclamation mark
abbrev pub shown_ending : Ending → List ℕ
shown_ending Done = []
shown_ending (Refused e) = codes "! " ++ name_of e
shown_ending Usage = codes "! usage"

-- a space between what was put out and what ended the command, where both are there
abbrev pub shown_gap : List Mark → Ending → List ℕ
shown_gap [] ending = []
shown_gap (m ∷ marks) Done = []
shown_gap (m ∷ marks) _ = codes " "

-- that there is nothing to show
abbrev pub shown_nothing : List Mark → Ending → List ℕ
shown_nothing [] Done = codes "(nothing)"
shown_nothing _ _ = []

abbrev pub shown_both : List Mark → Ending → List ℕ
shown_both marks ending = shown_nothing marks ending ++ (shown_front marks ++ (shown_gap marks ending ++ shown_ending ending))

-- an answer on one line, without the command itself
unfoldable pub shown_answer : Answer → List ℕ
shown_answer a = shown_both (marks_of a.content) a.ending

abbrev pub same_mark : Mark → Mark → Bool
same_mark (Byte a) (Byte b) = a == b
same_mark Within Within = true
same_mark _ _ = false

-- the place, counted from 1, of the first byte that differs
unfoldable pub first_difference : List Mark → List Mark → ℕ
first_difference (m ∷ ms) (n ∷ ns) = if same_mark m n then first_difference ms ns + 1 else 1
first_difference _ _ = 1

-- whether both have the same byte at a place
abbrev pub same_marks : Option Mark → Option Mark → Bool
same_marks (Some m) (Some n) = same_mark m n
same_marks _ _ = false

abbrev pub same_at : List Mark → List Mark → ℕ → Bool
same_at ms ns i = same_marks (slice_get ms i) (slice_get ns i)
