-- What the lines of a script have said so far.
use Rattle.std.specs.Prelude.{refl, ℕ, ◌==◌, ◌||◌, ◌++◌, Bool, true, not, codes, option_and_then, List, [], ◌∷◌, Option, Some, None, if◌then◌else◌}
use Rattle.std.specs.Coded.{Coded, code_by, coded_bool, coded_list, coded_ℕ, coded×}
use Rattle.std.specs.List.{slice_split}
use Rattle.hurd_creds.specs.Access.{IdSets, coded_ids}
use Rattle.hurd_words.specs.Lines.{is_skipped}
use Rattle.hurd_words.specs.Users.{Declaration, begins_with, declaration_of, declared_ids, has_room_for, names_before}
use Rattle.hurd_words.specs.Reading.{good_words}
use Rattle.hurd_words.specs.Words.{text_of}
use Rattle.hurd_script.specs.Commands.{CommandLine, coded_command, command_of}
use Rattle.hurd_script.specs.Script.{begun, commands_before, users_before}

-- what the lines so far have said
pub record Standing : Type 0 where
  pub names : List (List ℕ)
  pub users : List IdSets
  pub commands : List CommandLine
  pub begun : Bool

-- it is stored as the tuple of its fields
abbrev pub coded_standing : Coded Standing
coded_standing =
    code_by ((List (List ℕ) × List IdSets) × (List CommandLine × Bool))
    (coded× (coded× (coded_list (coded_list coded_ℕ)) (coded_list coded_ids)) (coded× (coded_list coded_command) coded_bool))
    (λ s. ((s.names, s.users), (s.commands, s.begun)))
    (λ p. record { names = p.0.0; users = p.0.1; commands = p.1.0; begun = p.1.1 })
    (λ _. refl)

-- what these lines have said
abbrev pub standing : List (List ℕ) → Standing
standing lines =
    record {
      names = names_before lines;
      users = users_before lines;
      commands = commands_before lines;
      begun = begun lines;
    }

-- with a user more, where the ids are good
abbrev pub with_user : Standing → List ℕ → Option IdSets → Option Standing
with_user s name None = None
with_user s name (Some ids) = Some (record s { names = s.names ++ name ∷ []; users = s.users ++ ids ∷ [] })

-- with what a user line declares, unless that is bad
abbrev pub with_declared : Standing → Option Declaration → Option Standing
with_declared s None = None
with_declared s (Some user) =
    if s.begun || not (has_room_for s.names user.name) then None else with_user s user.name (declared_ids user)

-- with a command more, where there is one
abbrev pub with_command : Standing → Option CommandLine → Option Standing
with_command s None = None
with_command s (Some command) = Some (record s { commands = s.commands ++ command ∷ []; begun = true })

-- with a line of these words, unless it is bad
abbrev pub with_words : Standing → List ℕ → List (List ℕ) → Option Standing
with_words s line words =
    if begins_with (codes "user") words
    then with_declared s (declaration_of words)
    else with_command s (command_of s.names line words)

-- what comes after a line, unless that is bad
abbrev pub with_line : Standing → List ℕ → Option Standing
with_line s line =
    if is_skipped line then Some s
    else option_and_then (with_words s line) (good_words text_of (slice_split (λ b. b == 32) line))
