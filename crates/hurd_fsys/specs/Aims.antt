-- At which nodes a server is to aim that comes.
use Rattle.std.specs.Prelude.{◌≡◌, ◌≢◌, ◌&&◌, Bool, true, false, List, [], ◌∷◌, Option, Some, None, Result, Ok, Err}
use Rattle.hurd_creds.specs.declared.name.Name.{Name}
use Rattle.hurd_creds.specs.declared.errno.Errno.{Errno}
use Rattle.hurd_creds.specs.declared.errno.Errno.TheVariants.{ENOTDIR}
use Rattle.hurd_creds.specs.Access.{IdSets}
use Rattle.hurd_trans_iface.specs.Nodes.{Header, is_dir}
use Rattle.hurd_trans_iface.specs.Meaning.{Meaning, root_of, targets_of}
use Rattle.hurd_trans_iface.specs.declared.root.Crossing.{Crossing}
use Rattle.hurd_trans_iface.specs.declared.root.Crossing.TheVariants.{Union}
use Rattle.hurd_machine.specs.World.{World, header_at}
use Rattle.hurd_machine.specs.Plan.{first, given}
use Rattle.hurd_lookup.specs.Resolve.{resolve_all}

-- each is a directory that is there

abbrev pub is_dir_there : Option Header → Bool
is_dir_there None = false
is_dir_there (Some h) = is_dir h.kind

abbrev pub are_dirs : World → List Name → Bool
are_dirs w [] = true
are_dirs w (n ∷ ns) = is_dir_there (header_at w n) && are_dirs w ns

-- a union's targets are directories
abbrev pub fits : World → Crossing → List Name → Bool
fits w Union ns = are_dirs w ns
fits w _ ns = true

-- the targets of a server that means this, found with these ids: each refusal in its place, that of one at which a translator waits as it is said; and then ENOTDIR
abbrev pub aims_asks : Errno → World → IdSets → Meaning → Result (List Name) Errno
aims_asks asleep w ids m =
    first (resolve_all asleep w ids (targets_of m.kind m.text)) (λ ns.
    given ENOTDIR (fits w (root_of m.kind m.text).crossing ns) (Ok ns))

-- there are targets to be found
abbrev pub HasTargets : Meaning → Type 0
HasTargets m = targets_of m.kind m.text ≢ []
