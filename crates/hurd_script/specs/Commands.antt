-- The commands of a script.
use Rattle.std.specs.Prelude.{refl, ℕ, ◌&&◌, ◌||◌, Bool, true, false, not, List, [], ◌∷◌, ◌++◌, Option, Some, None, if◌then◌else◌, is_none, bytes_eq, codes}
use Rattle.std.specs.Coded.{Coded, code_by, coded_list, coded_ℕ, coded×}
use Rattle.hurd_words.specs.Lines.{is_skipped, skip_spaces, skip_word, without_end, Turn}
use Rattle.hurd_words.specs.Words.{words_of}
use Rattle.hurd_words.specs.Users.{is_user_line, names_before, task_of}
use Rattle.hurd_script.specs.contracts.command.Verb as verb
use Rattle.hurd_script.specs.declared.command.Verb.{Verb}
use Rattle.hurd_script.specs.declared.command.Verb.TheVariants.{Cat, Ls, Put, Mkdir, Rm, Rmdir, Ln, Mv, Chmod, Chown, Settrans, Showtrans, Fsysopts}

-- a command: who makes it, what a transcript writes before its output, what it is called, and the words after that
pub record CommandLine : Type 0 where
  pub task : ℕ
  pub header : List ℕ
  pub verb : Verb
  pub words : List (List ℕ)

-- a command line is stored as the tuple of its fields
abbrev pub coded_command : Coded CommandLine
coded_command =
    code_by ((ℕ × List ℕ) × (Verb × List (List ℕ)))
    (coded× (coded× coded_ℕ (coded_list coded_ℕ)) (coded× (verb.the_row).coded (coded_list (coded_list coded_ℕ))))
    (λ c. ((c.task, c.header), (c.verb, c.words)))
    (λ p. record { task = p.0.0; header = p.0.1; verb = p.1.0; words = p.1.1 })
    (λ _. refl)

-- neither skipped nor a user line
abbrev pub is_command_line : List ℕ → Bool
is_command_line line = not (is_skipped line) && not (is_user_line line)

-- the command that a word names
abbrev pub verb_of : List ℕ → Option Verb
verb_of word =
    if bytes_eq word (codes "cat") then Some Cat
    else if bytes_eq word (codes "ls") then Some Ls
    else if bytes_eq word (codes "put") then Some Put
    else if bytes_eq word (codes "mkdir") then Some Mkdir
    else if bytes_eq word (codes "rm") then Some Rm
    else if bytes_eq word (codes "rmdir") then Some Rmdir
    else if bytes_eq word (codes "ln") then Some Ln
    else if bytes_eq word (codes "mv") then Some Mv
    else if bytes_eq word (codes "chmod") then Some Chmod
    else if bytes_eq word (codes "chown") then Some Chown
    else if bytes_eq word (codes "settrans") then Some Settrans
    else if bytes_eq word (codes "showtrans") then Some Showtrans
    else if bytes_eq word (codes "fsysopts") then Some Fsysopts
    else None

-- the line after its first word, as written, without outer spaces
abbrev pub behind_name : List ℕ → List ℕ
behind_name line = without_end (skip_spaces (skip_word (skip_spaces line)))

-- the line of a transcript that names a command: the user's name, `$ `, and the line after the name
abbrev pub header_of : List ℕ → List ℕ → List ℕ
header_of name line = name ++ codes "$ " ++ behind_name line

-- nobody has the name that the line begins with
abbrev pub is_undeclared : List (List ℕ) → List (List ℕ) → Bool
is_undeclared names [] = false
is_undeclared names (name ∷ words) = is_none (task_of names name)

-- nothing comes after the name
abbrev pub has_no_command : List (List ℕ) → Bool
has_no_command [] = true
has_no_command (name ∷ []) = true
has_no_command (name ∷ verb ∷ words) = false

-- what comes after the name is no command
abbrev pub has_unknown_command : List (List ℕ) → Bool
has_unknown_command (name ∷ verb ∷ words) = is_none (verb_of verb)
has_unknown_command _ = false

-- a command line of an undeclared user, without a command, or with one that is none
abbrev pub is_bad_command : List (List ℕ) → List (List ℕ) → Bool
is_bad_command names words = is_undeclared names words || (has_no_command words || has_unknown_command words)

-- a command of these parts, where there are a task and a command
abbrev pub command_from : Option ℕ → Option Verb → List ℕ → List (List ℕ) → Option CommandLine
command_from (Some task) (Some verb) header words = Some (record { task = task; header = header; verb = verb; words = words })
command_from _ _ header words = None

-- `NAME COMMAND WORD..`, where the users have these names
abbrev pub command_of : List (List ℕ) → List ℕ → List (List ℕ) → Option CommandLine
command_of names line (name ∷ verb ∷ words) = command_from (task_of names name) (verb_of verb) (header_of name line) words
command_of names line _ = None

-- the command of a line
abbrev pub command_at : Turn → Option CommandLine
command_at turn =
    if is_command_line turn.line
    then command_of (names_before turn.earlier) turn.line (words_of turn.line)
    else None
