-- What a script says, and where it is bad.
use Rattle.std.specs.Prelude.{ℕ, ◌&&◌, ◌||◌, Bool, not, List, [], ◌∷◌, Option, Some, if◌then◌else◌, nat_lt, option_and_then, filter_map, length}
use Rattle.std.specs.List.{list_any, position_from}
use Rattle.std.specs.FinSet as set
use Rattle.hurd_creds.specs.Access.{IdSets}
use Rattle.hurd_creds.specs.Limits.{most_script}
use Rattle.hurd_words.specs.Lines.{is_skipped, lines_of, turns}
use Rattle.hurd_words.specs.Words.{is_bad_word, text_of, words_of, written_words}
use Rattle.hurd_words.specs.Users.{declared, declared_ids, is_bad_user, is_user_line, names_before}
use Rattle.hurd_script.specs.Commands.{CommandLine, command_at, is_bad_command, is_command_line}

-- a command came
abbrev pub begun : List (List ℕ) → Bool
begun lines = list_any is_command_line lines

-- a user line after a command, or a bad one
abbrev pub is_user_fault : List (List ℕ) → List ℕ → Bool
is_user_fault earlier line = begun earlier || is_bad_user (names_before earlier) (words_of line)

-- whether a line is bad after these: one with a bad word, a bad user line, or another that is no command
abbrev pub is_bad_line : List (List ℕ) → List ℕ → Bool
is_bad_line earlier line =
    not (is_skipped line)
    && (list_any (is_bad_word text_of) (written_words line)
    || (if is_user_line line
    then is_user_fault earlier line
    else is_bad_command (names_before earlier) (words_of line)))

-- the first bad line of these, counted from 1
abbrev pub first_bad : List (List ℕ) → Option ℕ
first_bad lines = position_from (λ turn. is_bad_line turn.earlier turn.line) 1 (turns lines)

-- the line at which a script is bad, if it is: 0 for one that is too long, and else its first bad line
abbrev pub bad : List ℕ → Option ℕ
bad script = if nat_lt most_script (length script) then Some 0 else first_bad (lines_of script)

-- root's ids: user 0 and group 0
abbrev pub root_ids : IdSets
root_ids = record { uids = set.from_list (0 ∷ []); gids = set.from_list (0 ∷ []) }

-- the ids of the user that a line declares
abbrev pub user_at : List ℕ → Option IdSets
user_at line = option_and_then declared_ids (declared line)

-- the ids of the users that these lines leave, task by task: root, then those declared
abbrev pub users_before : List (List ℕ) → List IdSets
users_before lines = root_ids ∷ filter_map user_at lines

-- the names of a script's users
abbrev pub names_of : List ℕ → List (List ℕ)
names_of script = names_before (lines_of script)

-- the ids of a script's users
abbrev pub users_of : List ℕ → List IdSets
users_of script = users_before (lines_of script)

-- the commands of these lines, in their order
abbrev pub commands_before : List (List ℕ) → List CommandLine
commands_before lines = filter_map command_at (turns lines)

-- the commands of a script
abbrev pub commands_of : List ℕ → List CommandLine
commands_of script = commands_before (lines_of script)
