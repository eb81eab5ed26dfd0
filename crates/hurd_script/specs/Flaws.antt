-- Why a line of a script is bad.
use Rattle.std.specs.Prelude.{◌≡◌, ℕ, ◌-◌, not, List, [], ◌∷◌, Option, Some, None, Result, Ok, Err, codes, get_or, if◌then◌else◌, is_none, length, nat_lt, take}
use Rattle.std.specs.List.{list_any}
use Rattle.hurd_creds.specs.Access.{IdSets}
use Rattle.hurd_creds.specs.Limits.{most_script, most_tasks}
use Rattle.hurd_words.specs.Lines.{is_skipped, lines_of}
use Rattle.hurd_words.specs.Words.{is_bad_word, text_of, words_of, written_words}
use Rattle.hurd_words.specs.Users.{Declaration, begins_with, declaration_of, declared_ids, is_taken, is_user_name, task_of}
use Rattle.hurd_script.specs.Commands.{verb_of}
use Rattle.hurd_script.specs.Reading.{Standing, standing}
use Rattle.hurd_script.specs.Script.{bad, first_bad}
use Rattle.hurd_script.specs.declared.flaw.LineFault.{LineFault}
use Rattle.hurd_script.specs.declared.flaw.LineFault.TheVariants as line_fault
use Rattle.hurd_script.specs.declared.flaw.ScriptFlaw.{ScriptFlaw}
use Rattle.hurd_script.specs.declared.flaw.ScriptFlaw.TheVariants.{Length, Word, LateUser, UserForm, UserName, TakenName, UserCount, UserIds, NoUser, NoCommand, OtherCommand}
use Rattle.hurd_script.specs.declared.reader.ScriptFault.{ScriptFault}
use Rattle.hurd_script.specs.declared.reader.ScriptFault.TheVariants as fault

-- a flaw in words
abbrev pub flaw_text : ScriptFlaw → List ℕ
flaw_text Length = codes "longer than 1048576 bytes"
flaw_text Word = codes "words are printable ASCII; a backslash must be followed by s, n or a backslash"
flaw_text LateUser = codes "user lines must come before the first command"
flaw_text UserForm = codes "a user line is: user NAME UIDS GIDS"
flaw_text UserName = codes "a user's name is 1 to 16 lower-case letters and digits, a letter first"
flaw_text TakenName = codes "the name is taken, or is root or user"
flaw_text UserCount = codes "there are 64 users already"
flaw_text UserIds = codes "UIDS and GIDS are each at most 32 numbers below 4294967296 with commas between them, or -"
flaw_text NoUser = codes "the line begins with no user's name"
flaw_text NoCommand = codes "no command after the name"
flaw_text OtherCommand = codes "no such command"

-- why nobody of this name may be declared beside those of these names, by the order of the tests
unfoldable pub name_flaw : List (List ℕ) → List ℕ → Option ScriptFlaw
name_flaw names name =
    if not (is_user_name name) then Some UserName
    else if is_taken names name then Some TakenName
    else if not (nat_lt (length names) most_tasks) then Some UserCount
    else None

-- why a user may not be declared, whose name may be or is bad for this reason
abbrev pub ids_flaw : Option ScriptFlaw → Option IdSets → Option ScriptFlaw
ids_flaw (Some flaw) ids = Some flaw
ids_flaw None None = Some UserIds
ids_flaw None (Some ids) = None

-- and where nobody is declared, since the line is of another form
abbrev pub user_flaw : List (List ℕ) → Option Declaration → Option ScriptFlaw
user_flaw names None = Some UserForm
user_flaw names (Some user) = ids_flaw (name_flaw names user.name) (declared_ids user)

-- why a user line is bad: it comes after a command, or its user may not be declared
abbrev pub late_flaw : Standing → Option Declaration → Option ScriptFlaw
late_flaw s user = if s.begun then Some LateUser else user_flaw s.names user

-- why a command line of these words is bad, where the users have these names
abbrev pub command_flaw : List (List ℕ) → List (List ℕ) → Option ScriptFlaw
command_flaw names [] = Some NoCommand
command_flaw names (name ∷ []) = if is_none (task_of names name) then Some NoUser else Some NoCommand
command_flaw names (name ∷ verb ∷ words) =
    if is_none (task_of names name) then Some NoUser
    else if is_none (verb_of verb) then Some OtherCommand
    else None

-- why a line of these words is bad
unfoldable pub words_flaw : Standing → List (List ℕ) → Option ScriptFlaw
words_flaw s words =
    if begins_with (codes "user") words then late_flaw s (declaration_of words) else command_flaw s.names words

-- why a line is bad where the lines before it have said this, by the order of the tests
abbrev pub line_flaw : Standing → List ℕ → Option ScriptFlaw
line_flaw s line =
    if is_skipped line then None
    else if list_any (is_bad_word text_of) (written_words line) then Some Word
    else words_flaw s (words_of line)

-- why one of these lines is bad, by its number
abbrev pub flaw_among : List (List ℕ) → ℕ → Option ScriptFlaw
flaw_among lines number = line_flaw (standing (take (number - 1) lines)) (get_or lines (number - 1) [])

-- why a script is bad at a line: it is too long, or the line is bad
abbrev pub flaw_at : List ℕ → ℕ → Option ScriptFlaw
flaw_at script line = if nat_lt most_script (length script) then Some Length else flaw_among (lines_of script) line

-- the script is bad at the line that is told and for that reason, or memory was refused
abbrev pub FaultOf : List ℕ → ScriptFault → Type 0
FaultOf script fault.Memory = Unit {0}
FaultOf script (fault.Bad line flaw) = (bad script ≡ Some line) × (flaw_at script line ≡ Some flaw)

-- the lines are first bad at the one that is told and for that reason, or memory was refused
abbrev pub LineFaultOf : List (List ℕ) → ScriptFault → Type 0
LineFaultOf lines fault.Memory = Unit {0}
LineFaultOf lines (fault.Bad line flaw) = (first_bad lines ≡ Some line) × (flaw_among lines line ≡ Some flaw)

-- the fault of a line
abbrev pub fault_at : LineFault → ℕ → ScriptFault
fault_at line_fault.Memory line = fault.Memory
fault_at (line_fault.Bad flaw) line = fault.Bad line flaw

-- what was to be read is read, or is bad, or memory was refused
abbrev pub ReadsLine : {X Y : Type 0} → (X → Y) → Option Y → Result X LineFault → Type 0
ReadsLine view wanted (Ok x) = wanted ≡ Some (view x)
ReadsLine view wanted (Err line_fault.Memory) = Unit {0}
ReadsLine view wanted (Err (line_fault.Bad told)) = wanted ≡ None

-- where it is bad, this is the reason that is told
abbrev pub TellsFlaw : {X : Type 0} → Option ScriptFlaw → Result X LineFault → Type 0
TellsFlaw flaw (Ok x) = Unit {0}
TellsFlaw flaw (Err line_fault.Memory) = Unit {0}
TellsFlaw flaw (Err (line_fault.Bad told)) = flaw ≡ Some told
