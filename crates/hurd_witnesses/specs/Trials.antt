-- Which commands are tried, to find out how somebody could be told what a line says that some learn.
use Rattle.std.specs.Prelude.{ℕ, ◌+◌, ◌-◌, ◌*◌, ◌==◌, ◌&&◌, ◌||◌, Bool, true, false, List, [], ◌∷◌, ◌++◌, bytes_eq, codes, get_or, if◌then◌else◌, length, map, nat_le, nat_lt, take}
use Rattle.std.specs.List.{slice_split}
use Rattle.hurd_witnesses.specs.declared.children.Seek.{Seek}
use Rattle.hurd_witnesses.specs.declared.children.Seek.TheVariants.{Entries, Sign, Name}
use Rattle.hurd_witnesses.specs.declared.places.Stand.{Stand}
use Rattle.hurd_witnesses.specs.declared.places.Stand.TheVariants.{Plain, Backslash, First, Second}

-- PLACES: a line says where something is, as `  alice learns: /home/bob (port 3): mode 755 -> 700`

-- a part of a line between bytes of one kind, counted from 0
abbrev pub part_at : ℕ → ℕ → List ℕ → List ℕ
part_at c i line = get_or (slice_split (λ b. b == c) line) i []

-- what is in front of the first colon of a line that says what some learn who are called so
abbrev pub head_of : List ℕ → ℕ → List ℕ
head_of who users = codes "  " ++ (who ++ (if nat_lt 1 users then codes " learn" else codes " learns"))

-- where something is that a line tells: between its first colons, up to a space or a bracket
abbrev pub place_of : List ℕ → List ℕ
place_of line = part_at 40 0 (part_at 32 1 (part_at 58 1 line))

-- what a digit of base 16 counts
abbrev pub digit_of : ℕ → ℕ
digit_of b = if nat_lt b 58 then b - 48 else b - 87

-- the byte of such a number, where a script's word may have it as it is; else as it was spelled
abbrev pub by_value : ℕ → ℕ → ℕ → List ℕ
by_value v high low = if nat_le 33 v && nat_le v 126 then v ∷ [] else 92 ∷ 120 ∷ high ∷ low ∷ []

abbrev pub by_digits : ℕ → ℕ → List ℕ
by_digits high low = by_value (digit_of high * 16 + digit_of low) high low

-- a place as a script writes it: a byte that is spelled by its number, as `\x2c`, is written as it is
abbrev pub scripted_from : Stand → List ℕ → List ℕ
scripted_from stand [] = []
scripted_from Plain (b ∷ bs) = if b == 92 then scripted_from Backslash bs else b ∷ scripted_from Plain bs
scripted_from Backslash (b ∷ bs) = if b == 120 then scripted_from First bs else 92 ∷ b ∷ scripted_from Plain bs
scripted_from First (b ∷ bs) = scripted_from (Second b) bs
scripted_from (Second high) (b ∷ bs) = by_digits high b ++ scripted_from Plain bs

abbrev pub scripted : List ℕ → List ℕ
scripted place = scripted_from Plain place

-- the sign of an entry that is new or gone, in what changed of a directory, as `entries + notes - plan`
abbrev pub is_sign : List ℕ → Bool
is_sign word = bytes_eq word (codes "+") || bytes_eq word (codes "-")

-- whether a name is looked for
abbrev pub is_name : Seek → Bool
is_name Name = true
is_name _ = false

-- whether a sign is looked for
abbrev pub wants_sign : Seek → Bool
wants_sign Sign = true
wants_sign _ = false

-- what is looked for after a word that is no name
abbrev pub next_seek : Seek → List ℕ → Seek
next_seek seek word = if wants_sign seek && is_sign word then Name else if bytes_eq word (codes "entries") then Sign else Entries

-- the name that is found first among words, up to a comma
abbrev pub child_from : Seek → List (List ℕ) → List ℕ
child_from seek [] = []
child_from Entries (word ∷ words) = child_from (next_seek Entries word) words
child_from Sign (word ∷ words) = child_from (next_seek Sign word) words
child_from Name (word ∷ words) = part_at 44 0 word

abbrev pub child_of : List ℕ → List ℕ
child_of line = child_from Entries (slice_split (λ b. b == 32) line)

-- whether a place is a path
abbrev pub is_path : List ℕ → Bool
is_path [] = false
is_path (b ∷ bs) = b == 47

-- COMMANDS

-- a command with a word in it
abbrev pub command : List ℕ → List ℕ → List ℕ → List ℕ
command before word behind = before ++ (word ++ behind)

-- the path of an entry of a directory, of which the root's is one byte
abbrev pub child_path : List ℕ → List ℕ → List ℕ
child_path path name = (if length path == 1 then path else path ++ codes "/") ++ name

-- and what is asked of that, where there is a name
abbrev pub child_commands : List ℕ → List ℕ → List (List ℕ)
child_commands path name = if length name == 0 then [] else command (codes "ls -d ") (child_path path name) [] ∷ []

-- what shows a node
abbrev pub looks_at : List ℕ → List (List ℕ)
looks_at path = command (codes "cat ") path [] ∷ command (codes "ls ") path [] ∷ command (codes "ls -d ") path [] ∷ []

-- what else can be asked of it
abbrev pub acts_on : List ℕ → List (List ℕ)
acts_on path =
    command (codes "showtrans ") path []
    ∷ command (codes "fsysopts ") path []
    ∷ command (codes "put ") path (codes " x")
    ∷ command (codes "rmdir ") path []
    ∷ command (codes "rm ") path []
    ∷ command (codes "settrans ") path []
    ∷ command (codes "settrans -g ") path []
    ∷ command (codes "chmod 644 ") path []
    ∷ []

-- what can be asked of a node by its path, and of an entry of it
abbrev pub commands_on : List ℕ → List ℕ → List (List ℕ)
commands_on path name = looks_at path ++ (child_commands path name ++ acts_on path)

-- a line of a script: a user's command
abbrev pub line_by : List ℕ → List ℕ → List ℕ
line_by command user = user ++ 32 ∷ command

-- each command by each of these users
abbrev pub lines_by : List (List ℕ) → List (List ℕ) → List (List ℕ)
lines_by users [] = []
lines_by users (c ∷ cs) = map (line_by c) users ++ lines_by users cs

-- the first 16 of them are tried; none where the place is no path
abbrev pub trials_on : List (List ℕ) → List ℕ → List ℕ → List (List ℕ)
trials_on users path name = if is_path path then take 16 (lines_by users (commands_on path name)) else []

-- what is tried of what a line tells
abbrev pub trials_of : List (List ℕ) → List ℕ → List (List ℕ)
trials_of users line = trials_on users (scripted (place_of line)) (scripted (child_of line))
