-- How those who learn something could find it out: a command of theirs that gets a different reply before and after what was done.
use Rattle.std.specs.Prelude.{◌≡◌, ℕ, ◌+◌, ◌-◌, ◌==◌, List, [], ◌∷◌, ◌++◌, Option, Some, None, bytes_eq, codes, decimal, drop, if◌then◌else◌, length, slice_get, take}
use Rattle.std.specs.List.{slice_split}
use Rattle.std.specs.Option.{option_or}
use Rattle.hurd_dialogue.specs.Sorts.{Sort}
use Rattle.hurd_words.specs.Lines.{is_skipped, lines_of}
use Rattle.hurd_words.specs.Marks.{marked}
use Rattle.hurd_words.specs.Printing.{text_if}
use Rattle.hurd_words.specs.declared.answers.Answer.{Answer}
use Rattle.hurd_witnesses.specs.Answers.{answer_of, first_difference, marks_of, shown_answer, unended}
use Rattle.hurd_witnesses.specs.Trials.{head_of, part_at, trials_of}
use Rattle.hurd_witnesses.specs.declared.hunt.Hunt.{Hunt}
use Rattle.hurd_witnesses.specs.declared.witness.Witness.{Witness}

-- SCRIPTS

-- a line with its newline
abbrev pub ended : List ℕ → List ℕ
ended line = line ++ 10 ∷ []

-- the text of lines
abbrev pub text_of : List (List ℕ) → List ℕ
text_of [] = []
text_of (line ∷ lines) = ended line ++ text_of lines

-- of some lines those that say something
unfoldable pub said_of : List (List ℕ) → List (List ℕ)
said_of [] = []
said_of (line ∷ lines) = if is_skipped line then said_of lines else line ∷ said_of lines

-- a script up to a command: the first lines that say something, and so many commands after them
abbrev pub text_up_to : List ℕ → ℕ → ℕ → List ℕ
text_up_to script first made = text_of (take first (said_of (lines_of script))) ++ text_of (take made (drop first (said_of (lines_of script))))

-- WITNESSES

-- a trial that gets two replies, of which what is printed with marks is not the same, is a witness
abbrev pub told_apart : List ℕ → Option Answer → Option Answer → Option Witness
told_apart trial (Some s) (Some t) = if bytes_eq (marked s) (marked t) then None else Some (record { trial = trial; before = s; after = t })
told_apart trial _ _ = None

-- the same of a line that is added to two texts
abbrev pub tried : Sort → List ℕ → List ℕ → List ℕ → Option Witness
tried sort before behind trial = told_apart trial (answer_of sort (before ++ ended trial)) (answer_of sort (behind ++ ended trial))

-- the first of some trials that is one
abbrev pub witness_of : Sort → List ℕ → List ℕ → List (List ℕ) → Option Witness
witness_of sort before behind [] = None
witness_of sort before behind (trial ∷ trials) = option_or (tried sort before behind trial) (witness_of sort before behind trials)

-- the same where a line is added to a text, if there is one
abbrev pub witness_at : Sort → List ℕ → Option (List ℕ) → List (List ℕ) → Option Witness
witness_at sort before None trials = None
witness_at sort before (Some line) trials = witness_of sort before (before ++ ended line) trials

-- a script up to the command before which so many stand
abbrev pub text_before : Hunt → ℕ → List ℕ
text_before h made = h.front ++ text_of (take made h.commands.items)

-- the first trial that is one of that command, between the script up to it and the script with it
abbrev pub witness_by : Sort → Hunt → ℕ → List (List ℕ) → Option Witness
witness_by sort h made trials = witness_at sort (text_before h made) (slice_get h.commands.items made) trials

-- a line after its label
abbrev pub labelled : List ℕ → List ℕ → List ℕ
labelled label said = label ++ (said ++ codes "\n")

-- from which byte on two replies differ
unfoldable pub place_text : ℕ → List ℕ
place_text place = codes "      differ: from byte " ++ (decimal place ++ codes " on\n")

-- the same where both are shown alike, since they differ after what is shown
abbrev pub differ_text : Answer → Answer → List ℕ
differ_text a b = text_if (bytes_eq (shown_answer a) (shown_answer b)) (place_text (first_difference (marks_of a.content) (marks_of b.content)))

-- both replies, each on a line of its own
unfoldable pub replies_text : Answer → Answer → List ℕ
replies_text a b = labelled (codes "      before: ") (shown_answer a) ++ (labelled (codes "      after:  ") (shown_answer b) ++ differ_text a b)

-- how many commands were tried, if there is none
abbrev pub no_witness_text : ℕ → List ℕ
no_witness_text tried = if tried == 0 then codes "    nothing to try: not a path\n" else codes "    tried " ++ (decimal tried ++ codes " commands: none shows it\n")

-- what is said of one: `    try alice cat /motd`, and both replies, `      before: ! ENOENT` and `      after:  Welcome\n`
abbrev pub shown_text : Witness → List ℕ
shown_text w = labelled (codes "    try ") w.trial ++ replies_text w.before w.after

-- or that there is none
abbrev pub witness_text : ℕ → Option Witness → List ℕ
witness_text tried None = no_witness_text tried
witness_text tried (Some w) = shown_text w

-- what is said of what was learned by the command before which so many stand, by these trials
abbrev pub said_by : Sort → Hunt → ℕ → List (List ℕ) → List ℕ
said_by sort h made trials = witness_text (length trials) (witness_by sort h made trials)

abbrev pub how_of : Sort → Hunt → ℕ → List ℕ → List ℕ
how_of sort h made line = said_by sort h made (trials_of h.users.items line)

-- the same of any line: nothing where it tells no such thing
abbrev pub if_learned : Sort → Hunt → ℕ → List ℕ → List ℕ
if_learned sort h made line = if bytes_eq (part_at 58 0 line) h.head then how_of sort h made line else []

-- lines of what is printed, each with what is said of it, where so many commands stand before the one of which they tell: an empty line ends what is told of one
unfoldable pub witnessed : Sort → Hunt → ℕ → List (List ℕ) → List ℕ
witnessed sort h made [] = []
witnessed sort h made (line ∷ lines) =
    (ended line ++ if_learned sort h made line) ++ witnessed sort h (if length line == 0 then made + 1 else made) lines

-- who learns, what is in front of what they learn, and the lines of a script, of which the first so many stand before its commands
pub record IsHunt (who script : List ℕ) (first : ℕ) (h : Hunt) : Type 0 where
  pub users : h.users.items ≡ slice_split (λ b. b == 44) who
  pub head : h.head ≡ head_of who (length (slice_split (λ b. b == 44) who))
  pub front : h.front ≡ text_of (take first (said_of (lines_of script)))
  pub commands : h.commands.items ≡ drop first (said_of (lines_of script))

-- what is printed of a text, with how those who are named could be told each thing
pub record IsWitnessed (sort : Sort) (who text learned printed : List ℕ) : Type 0 where
  pub hunt : Hunt
  pub is : IsHunt who text (sort.heading text - 1) hunt
  pub all : printed ≡ witnessed sort hunt 0 (lines_of (unended learned))
