-- With which ids the targets of a server are found.
use Rattle.std.specs.Prelude.{ℕ, ◌||◌, Bool, if◌then◌else◌, [], ◌∷◌}
use Rattle.std.specs.FinSet as set
use Rattle.hurd_creds.specs.Access.{IdSets, holds_uid}
use Rattle.hurd_lookup.specs.Lookup.{no_ids}

-- a server runs with the uid of the node's owner, and no gids
abbrev pub server_ids : ℕ → IdSets
server_ids owner = record { uids = set.from_list (owner ∷ []); gids = set.from_list [] }

-- with which ids its targets are found: those of the node's owner, where who starts it has his uid, or uid 0; else none. So nobody searches with the ids of a stranger
-- whose server it starts
abbrev pub is_lent : IdSets → ℕ → Bool
is_lent ids owner = holds_uid ids owner || holds_uid ids 0

abbrev pub lent : IdSets → ℕ → IdSets
lent ids owner = if is_lent ids owner then server_ids owner else no_ids
