-- The names in a directory, and in those that it shows as one.
use Rattle.std.specs.Prelude.{ℕ, List, [], ◌∷◌, Option, Some, None, Result, Ok, Err, if◌then◌else◌}
use Rattle.hurd_creds.specs.declared.name.Name.{Name}
use Rattle.hurd_creds.specs.declared.errno.Errno.{Errno}
use Rattle.hurd_creds.specs.declared.attrs.Want.TheVariants.{Read}
use Rattle.hurd_creds.specs.Access.{IdSets, may}
use Rattle.hurd_trans_iface.specs.Nodes.{Header}
use Rattle.hurd_trans_iface.specs.Answers.{names_of}
use Rattle.hurd_machine.specs.World.{World, header_at, body_at}
use Rattle.hurd_machine.specs.Sight.{bare}
use Rattle.hurd_union.specs.Merge.{merge}

-- the names that are told, if any are
abbrev pub names_or : Result (List (List ℕ)) Errno → List (List ℕ)
names_or (Ok names) = names
names_or (Err e) = []

-- the names in a branch, by its header: none where it is gone, or these ids may not read it
abbrev pub names_by : World → IdSets → Name → Option Header → List (List ℕ)
names_by w ids b None = []
names_by w ids b (Some h) = if may ids (bare h) Read then names_or (names_of (body_at w b)) else []

-- after these the names in some directories, each once
abbrev pub all_names : World → IdSets → List Name → List (List ℕ) → List (List ℕ)
all_names w ids [] seen = seen
all_names w ids (b ∷ bs) seen = all_names w ids bs (merge seen (names_by w ids b (header_at w b)))
