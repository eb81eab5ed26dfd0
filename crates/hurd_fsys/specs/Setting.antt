-- Setting a translator: who may, what goes for it, and what it is given.
use Rattle.std.specs.Prelude.{◌≡◌, ◌⊎◌, ◌==◌, ◌||◌, ◌&&◌, not, is_some, ℕ, Bool, true, false, if◌then◌else◌, List, [], ◌∷◌, ◌++◌, Option, Some, None, Result, Ok, IsOk}
use Rattle.std.specs.Int.RustNames.{bit_and, bit_or}
use Rattle.hurd_creds.specs.declared.name.Name.{Name}
use Rattle.hurd_creds.specs.declared.mode.Mode.{Mode}
use Rattle.hurd_creds.specs.declared.attrs.Kind.{Kind}
use Rattle.hurd_creds.specs.declared.errno.Errno.{Errno}
use Rattle.hurd_creds.specs.declared.errno.Errno.TheVariants.{EBUSY, EINVAL, ENXIO, EOPNOTSUPP}
use Rattle.hurd_creds.specs.declared.trans_flags.TransFlags.{TransFlags}
use Rattle.hurd_creds.specs.TransBits.{asks_goaway, asks_trans, SET, EXCL, ORPHAN, FORCE}
use Rattle.hurd_trans_iface.specs.Nodes.{Header, is_dir, has_words, some_words, with_passive}
use Rattle.hurd_trans_iface.specs.Meaning.{Meaning, root_of}
use Rattle.hurd_nodes.specs.Shown.{tree_by}
use Rattle.hurd_machine.specs.declared.call.Reply.TheVariants.{Done, Words}
use Rattle.hurd_machine.specs.World.{World, active_at, info_at, is_server_root}
use Rattle.hurd_machine.specs.Change.{Change, EditHeader, DropServer, Unseat, Settle}
use Rattle.hurd_machine.specs.Plan.{Plan, on, given, first, answered, looks}
use Rattle.hurd_machine.specs.Handle.{Named, port_asks}
use Rattle.hurd_machine.specs.Sight.{Part, AttrOf, users}
use Rattle.hurd_machine.specs.Touched.{asked_parts, Nothing, Goes}
use Rattle.hurd_core.specs.declared.to_make.ServerToMake.{ServerToMake}
use Rattle.hurd_machine.specs.declared.call.Setting.{Setting}
use Rattle.hurd_core.specs.Core.{attaching, naming_asks}
use Rattle.hurd_lookup.specs.Lent.{lent, server_ids}
use Rattle.hurd_fsys.specs.Aims.{HasTargets, aims_asks}
use Rattle.hurd_fsys.specs.Owned.{owned_asks}

-- whether neither half is to be set
abbrev pub sets_nothing : Setting → Bool
sets_nothing f = not (asks_trans f.passive SET) && not (asks_trans f.active SET)

-- a port on a node that its ids own, and a box only where an active translator is to be set: EBADF, EDIED, EPERM, EINVAL
abbrev pub setter_asks : World → ℕ → ℕ → Setting → Bool → Result Named Errno
setter_asks w t p f brings =
    first (owned_asks w t p) (λ n.
    given EINVAL (not brings || asks_trans f.active SET) (Ok n))

-- a node that a server may sit on: of a server that keeps a tree, and not its root
abbrev pub may_seat : World → Name → Bool
may_seat w n = tree_by (info_at w n) && not (is_server_root w n)

-- whether a half that is there is to be a new one, whether or not it is to be set
abbrev pub is_excluded : TransFlags → Bool → Bool
is_excluded flags there = asks_trans flags EXCL && there

-- whether what is active on a node may be replaced, where the active half is to be set: not while it has users, unless it becomes an orphan, or is forced
abbrev pub may_replace : World → Setting → Option Name → Bool
may_replace w f None = true
may_replace w f (Some q) = not (asks_trans f.active SET) || (asks_trans f.active ORPHAN || (asks_goaway f.goaway FORCE || (users w q == 0)))

-- whether both halves may be set
abbrev pub may_set : World → Setting → List (List ℕ) → Option Name → Bool
may_set w f stored old = not (is_excluded f.passive (has_words stored)) && (not (is_excluded f.active (is_some old)) && may_replace w f old)

-- what is active on the node, and may be replaced: EOPNOTSUPP, EBUSY
abbrev pub seat_asks : World → Setting → Named → Result (Option Name) Errno
seat_asks w f n =
    given EOPNOTSUPP (may_seat w n.right.node) (
    given EBUSY (may_set w f n.header.passive (active_at w n.right.node)) (Ok (active_at w n.right.node)))

-- the server that goes: the old one, where the active half is set, unless it becomes an orphan
abbrev pub leaver : Setting → Option Name → Option Name
leaver f old = if not (asks_trans f.active SET) || asks_trans f.active ORPHAN then None else old

-- where the active half is set and no server comes, the old one goes, or loses its seat
abbrev pub emptying : Setting → Name → Option Name → List Change
emptying f n None = []
emptying f n (Some q) = if not (asks_trans f.active SET) then [] else if asks_trans f.active ORPHAN then Unseat n ∷ Settle ∷ [] else DropServer q ∷ Settle ∷ []

-- where the passive half is set, its words are stored, in place of those that were there; with none there are none any more
abbrev pub storing : Setting → Name → List (List ℕ) → List Change
storing f n words = if asks_trans f.passive SET then EditHeader n (with_passive words) ∷ [] else []

-- a class of a mode that may read may search too
abbrev pub with_search : ℕ → ℕ → ℕ → ℕ
with_search read search m = if bit_and m read == read then bit_or m search else m

-- the mode of a server's root is that of the node under it; in a directory each class that may read may search: owner, group, others, and who is unknown
abbrev pub root_mode : Kind → Mode → Mode
root_mode kind mode = if is_dir kind then record { 0 = with_search 256 64 (with_search 32 8 (with_search 4 1 (with_search 16384 4096 mode.0))) } else mode

-- the kind of the root of a server that means this
abbrev pub root_kind : Meaning → Kind
root_kind m = (root_of m.kind m.text).kind

-- where a server comes: on a node of this header, its root like that; for it another goes; and the task was to start it, or not
abbrev pub seat_on : Name → Header → Meaning → Option Name → Bool → ServerToMake
seat_on n h m instead starts = record { seat = n; owner = h.owner; group = h.group; mode = root_mode (root_kind m) h.mode; instead = instead; starts = starts }

-- the targets of a box that is brought, found with what is lent of the port's ids: ENXIO where a translator waits at one
abbrev pub box_aims : World → Named → Option Meaning → Result (List Name) Errno
box_aims w n None = Ok []
box_aims w n (Some m) = aims_asks ENXIO w (lent n.right.ids n.header.owner) m

-- what is set where something is: the words; then a box, which means this and has these targets, or none
abbrev pub seated : World → ℕ → Named → Setting → List (List ℕ) → Option Meaning → Option Name → List Name → Plan
seated w t n f words None old targets = record { reply = Done; changes = storing f n.right.node words ++ emptying f n.right.node old }
seated w t n f words (Some m) old targets =
    answered (naming_asks w t 2) (λ x.
    record { reply = Done; changes = storing f n.right.node words ++ attaching t (seat_on n.right.node n.header m (leaver f old) false) (server_ids n.header.owner) targets m x })

abbrev pub seating : World → ℕ → Named → Setting → List (List ℕ) → Option Meaning → Option Name → Plan
seating w t n f words box old = answered (box_aims w n box) (seated w t n f words box old)

-- with neither half to be set, nothing is
abbrev pub setting_where : Bool → World → ℕ → Setting → List (List ℕ) → Option Meaning → Named → Plan
setting_where true w t f words box n = record { reply = Done; changes = [] }
setting_where false w t f words box n = answered (seat_asks w f n) (seating w t n f words box)

abbrev pub setting : World → ℕ → Setting → List (List ℕ) → Option Meaning → Named → Plan
setting w t f words box n = setting_where (sets_nothing f) w t f words box n

-- file_set_translator
abbrev pub plan_set_translator : World → ℕ → ℕ → Setting → List (List ℕ) → Option Meaning → Plan
plan_set_translator w t p f words box = answered (setter_asks w t p f (is_some box)) (setting w t f words box)

-- it may want memory for the targets of a box that is brought, where a box may come
abbrev pub SetLacks : World → ℕ → ℕ → Setting → Option Meaning → Type 0
SetLacks w t p f None = ⊥
SetLacks w t p f (Some m) = HasTargets m × IsOk (first (setter_asks w t p f true) (seat_asks w f))

-- a server that goes, if one does
abbrev pub GoesFor : World → Option Name → Part → Type 0
GoesFor w None p = ⊥
GoesFor w (Some q) p = Goes w q p

-- the node's attributes, and what goes
abbrev pub seat_parts : World → Setting → Name → Option Name → Part → Type 0
seat_parts w f n old p = (p ≡ AttrOf n) ⊎ GoesFor w (leaver f old) p

-- the same with a box or without; if a box comes for which the task has no names left, nothing
abbrev pub box_parts : World → ℕ → Setting → Option Meaning → Name → Option Name → Part → Type 0
box_parts w t f None n old = seat_parts w f n old
box_parts w t f (Some m) n old = asked_parts (naming_asks w t 2) (λ x. seat_parts w f n old)

abbrev pub parts_where : Bool → World → ℕ → Setting → Option Meaning → Named → Part → Type 0
parts_where true w t f box n = Nothing
parts_where false w t f box n = asked_parts (seat_asks w f n) (λ old. asked_parts (box_aims w n box) (λ targets. box_parts w t f box n.right.node old))

abbrev pub setting_parts : World → ℕ → Setting → Option Meaning → Named → Part → Type 0
setting_parts w t f box n = parts_where (sets_nothing f) w t f box n

abbrev pub touches_set_translator : World → ℕ → ℕ → Setting → Option Meaning → Part → Type 0
touches_set_translator w t p f box = asked_parts (setter_asks w t p f (is_some box)) (setting_parts w t f box)

-- file_get_translator: the words that are stored with a port's node: EBADF, EDIED, EINVAL
abbrev pub stored_asks : World → ℕ → ℕ → Result (List (List ℕ)) Errno
stored_asks w t p =
    first (port_asks w t p) (λ n.
    on EINVAL (some_words n.header.passive) (λ words. Ok words))

abbrev pub plan_get_translator : World → ℕ → ℕ → Plan
plan_get_translator w t p = looks (stored_asks w t p) Words

abbrev pub touches_get_translator : World → ℕ → ℕ → Part → Type 0
touches_get_translator w t p = Nothing
