-- The users that a script declares.
use Rattle.std.specs.Prelude.{ℕ, ◌==◌, ◌&&◌, ◌||◌, Bool, false, not, List, [], ◌∷◌, Option, Some, None, if◌then◌else◌, nat_le, nat_lt, is_some, option_map, filter_map, bytes_eq, codes, length}
use Rattle.std.specs.List.{list_all, slice_split, position_from}
use Rattle.std.specs.Char.{is_ascii_digit, is_ascii_lowercase}
use Rattle.std.specs.Result.{result_ok}
use Rattle.hurd_creds.specs.Access.{IdSets, ids_of}
use Rattle.hurd_creds.specs.Limits.{most_tasks}
use Rattle.hurd_words.specs.Lines.{is_skipped}
use Rattle.hurd_words.specs.Words.{onto, words_of}
use Rattle.hurd_creds.specs.Numbers.{number_of}

-- the first word is this one
abbrev pub begins_with : List ℕ → List (List ℕ) → Bool
begins_with word [] = false
begins_with word (w ∷ ws) = bytes_eq w word

-- a line that is not skipped, whose first word is `user`
abbrev pub is_user_line : List ℕ → Bool
is_user_line line = not (is_skipped line) && begins_with (codes "user") (words_of line)

-- the words after `user`
pub record Declaration : Type 0 where
  pub name : List ℕ
  pub uids : List ℕ
  pub gids : List ℕ

-- `user NAME UIDS GIDS`, and no word more
abbrev pub declaration_of : List (List ℕ) → Option Declaration
declaration_of (user ∷ name ∷ uids ∷ gids ∷ []) = Some (record { name = name; uids = uids; gids = gids })
declaration_of _ = None

-- the first byte is a lower-case letter
abbrev pub begins_with_letter : List ℕ → Bool
begins_with_letter [] = false
begins_with_letter (b ∷ bs) = is_ascii_lowercase b

-- 1 to 16 lower-case letters and digits, the first a letter
abbrev pub is_user_name : List ℕ → Bool
is_user_name name = begins_with_letter name && (nat_le (length name) 16 && list_all (λ b. is_ascii_lowercase b || is_ascii_digit b) name)

-- a user's task: 0 for root, 1, 2, .. for the others
abbrev pub task_of : List (List ℕ) → List ℕ → Option ℕ
task_of names name = position_from (λ n. bytes_eq n name) 0 names

-- a name that somebody has already, or the word `user`
abbrev pub is_taken : List (List ℕ) → List ℕ → Bool
is_taken names name = is_some (task_of names name) || bytes_eq name (codes "user")

-- the numbers of these words, if each is one
unfoldable pub numbers_of : List (List ℕ) → Option (List ℕ)
numbers_of [] = Some []
numbers_of (word ∷ words) = onto (number_of word) (numbers_of words)

-- numbers joined by commas, or `-` for none
abbrev pub listed : List ℕ → Option (List ℕ)
listed word = if bytes_eq word (codes "-") then Some [] else numbers_of (slice_split (λ b. b == 44) word)

-- the ids of two lists, where both are lists and neither has more than 32 different numbers
abbrev pub ids_from : Option (List ℕ) → Option (List ℕ) → Option IdSets
ids_from (Some uids) (Some gids) = result_ok (ids_of uids gids)
ids_from _ _ = None

-- the ids of a user
abbrev pub declared_ids : Declaration → Option IdSets
declared_ids user = ids_from (listed user.uids) (listed user.gids)

-- whether a name is a good and new one, and may still be added to these
abbrev pub has_room_for : List (List ℕ) → List ℕ → Bool
has_room_for names name = is_user_name name && (not (is_taken names name) && nat_lt (length names) most_tasks)

-- whether a user may be declared after those of these names
abbrev pub may_declare : List (List ℕ) → Declaration → Bool
may_declare names user = has_room_for names user.name && is_some (declared_ids user)

-- whether there is a user, who may be declared
abbrev pub may_declare_some : List (List ℕ) → Option Declaration → Bool
may_declare_some names None = false
may_declare_some names (Some user) = may_declare names user

-- a user line of another form, of a bad or taken name, of bad ids, or of a user too many
abbrev pub is_bad_user : List (List ℕ) → List (List ℕ) → Bool
is_bad_user names words = not (may_declare_some names (declaration_of words))

-- who a line declares
abbrev pub declared : List ℕ → Option Declaration
declared line = if is_user_line line then declaration_of (words_of line) else None

-- the name of that
abbrev pub declared_name : List ℕ → Option (List ℕ)
declared_name line = option_map (λ user. user.name) (declared line)

-- the users that these lines leave: root, who is always there, and those declared, in their order
abbrev pub names_before : List (List ℕ) → List (List ℕ)
names_before lines = codes "root" ∷ filter_map declared_name lines
