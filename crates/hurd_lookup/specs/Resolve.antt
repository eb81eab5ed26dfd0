-- Paths that the core follows for itself, to the targets of servers.
use Rattle.std.specs.Prelude.{ℕ, zero, suc, List, [], ◌∷◌, Option, Some, None, Result, Ok, Err}
use Rattle.hurd_creds.specs.declared.name.Name.{Name}
use Rattle.hurd_creds.specs.declared.errno.Errno.{Errno}
use Rattle.hurd_creds.specs.declared.errno.Errno.TheVariants.{EDIED, ELOOP, ENAMETOOLONG, ENOENT}
use Rattle.hurd_creds.specs.Access.{IdSets}
use Rattle.hurd_trans_iface.specs.Kinds.Symlink.{is_absolute}
use Rattle.hurd_ports.specs.declared.parents.Parent.{Parent}
use Rattle.hurd_machine.specs.World.{World, boot_root, header_at}
use Rattle.hurd_machine.specs.Plan.{on, given, first}
use Rattle.hurd_lookup.specs.declared.request.Request.{Request}
use Rattle.hurd_lookup.specs.declared.resolve.Landing.{Landing}
use Rattle.hurd_lookup.specs.declared.resolve.Landing.TheVariants.{Lands, Sleeps}
use Rattle.hurd_lookup.specs.Path.{names_in, is_short}
use Rattle.hurd_lookup.specs.Lookup.{Authority, NewPort, Outcome, Opens, Makes, Retries, Starts, no_modes, request, walk}

-- from which node, come in by which ways, and along which path it goes on
pub record Leg : Type 0 where
  pub node : Name
  pub ways : List Parent
  pub path : List ℕ

-- along a path from the root of the tree: ENOENT where it is none
abbrev pub from_top : List ℕ → Result Leg Errno
from_top path = given ENOENT (is_absolute path) (Ok (record { node = boot_root; ways = []; path = path }))

-- along a name that is looked up elsewhere: at a node, or from the top
abbrev pub leg_at : List ℕ → Option NewPort → Result Leg Errno
leg_at name None = from_top name
leg_at name (Some e) = Ok (record { node = e.node; ways = e.parents; path = name })

-- it opens nothing and makes nothing: no flags and no mode
abbrev pub leg_request : List ℕ → Request
leg_request path = request path no_modes (record { 0 = 0 })

-- by what it goes, with these ids
abbrev pub leg_by : IdSets → Leg → Authority
leg_by ids l = record { ids = ids; ways = l.ways }

-- at the end of a walk: it ends at a node; or it goes on elsewhere; or it ends where a translator waits to be started
abbrev pub landed : (Leg → Result Landing Errno) → Outcome → Result Landing Errno
landed onward (Opens e) = Ok (Lands e.node)
landed onward (Makes s f ids ways) = Err ENOENT
landed onward (Retries kind name at) = first (leg_at name at) onward
landed onward (Starts s) = Ok (Sleeps s.node)

-- one look, with these ids
abbrev pub leg_asks : World → IdSets → Leg → (Leg → Result Landing Errno) → Result Landing Errno
leg_asks w ids l onward =
    on EDIED (header_at w l.node) (λ h.
    given ENAMETOOLONG (is_short l.path) (
    first (walk w (leg_by ids l) (leg_request l.path) l.node (names_in l.path)) (landed onward)))

-- with so many looks: ELOOP where one more is wanted
abbrev pub legs : ℕ → World → IdSets → Leg → Result Landing Errno
legs zero w ids l = Err ELOOP
legs (suc k) w ids l = leg_asks w ids l (legs k w ids)

-- the first look, and 32 retries
abbrev pub most_looks : ℕ
most_looks = 33

-- where a path from the root of the tree ends for who has these ids, whatever a retry's port has
unfoldable pub path_end : World → IdSets → List ℕ → Result Landing Errno
path_end w ids path = first (from_top path) (legs most_looks w ids)

-- the node, unless a translator waits there: that is refused like this
abbrev pub awake : Errno → Landing → Result Name Errno
awake asleep (Lands n) = Ok n
awake asleep (Sleeps n) = Err asleep

-- where a path leads
unfoldable pub resolve : Errno → World → IdSets → List ℕ → Result Name Errno
resolve asleep w ids path = first (path_end w ids path) (awake asleep)

-- where several lead, in order, up to the first that is refused
abbrev pub resolve_all : Errno → World → IdSets → List (List ℕ) → Result (List Name) Errno
resolve_all asleep w ids [] = Ok []
resolve_all asleep w ids (path ∷ paths) = first (resolve asleep w ids path) (λ n. first (resolve_all asleep w ids paths) (λ ns. Ok (n ∷ ns)))
