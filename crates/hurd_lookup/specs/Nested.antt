-- Which translator is to be started first, where a lookup comes to one that waits: one that its own targets need, if there is one.
use Rattle.std.specs.Prelude.{◌≡◌, ◌≢◌, ◌⊎◌, ℕ, zero, suc, Bool, if◌then◌else◌, List, [], ◌∷◌, Option, Some, None, Result, Ok, Err, IfSome, ◌&&◌, codes, is_some}
use Rattle.std.specs.Str.{bytes_eq}
use Rattle.std.specs.Option.{option_or}
use Rattle.hurd_creds.specs.declared.name.Name.{Name}
use Rattle.hurd_creds.specs.declared.errno.Errno.{Errno}
use Rattle.hurd_creds.specs.declared.errno.Errno.TheVariants.{ELOOP, ENOMEM}
use Rattle.hurd_creds.specs.Memory.{is_no_memory}
use Rattle.hurd_creds.specs.Access.{IdSets}
use Rattle.hurd_trans_iface.specs.Nodes.{Header}
use Rattle.hurd_trans_iface.specs.Meaning.{Meaning, begin, targets_of}
use Rattle.hurd_trans_iface.specs.Kinds.Firmlink.{firm_text}
use Rattle.hurd_trans_iface.specs.Kinds.Union.{union_text}
use Rattle.hurd_machine.specs.World.{World, header_at, words_at}
use Rattle.hurd_lookup.specs.declared.resolve.Landing.{Landing}
use Rattle.hurd_lookup.specs.declared.resolve.Landing.TheVariants.{Lands, Sleeps}
use Rattle.hurd_lookup.specs.Ends.{HasWords}
use Rattle.hurd_lookup.specs.Lent.{lent}
use Rattle.hurd_lookup.specs.Lookup.{no_ids}
use Rattle.hurd_lookup.specs.Resolve.{path_end}

-- the paths at which a server aims that words make; none where they make none

abbrev pub aims_of : Option Meaning → List (List ℕ)
aims_of None = []
aims_of (Some m) = targets_of m.kind m.text

unfoldable pub words_aims : List (List ℕ) → List (List ℕ)
words_aims ws = aims_of (begin ws)

-- with which ids the targets are found of what is started on a node

abbrev pub lent_by : IdSets → Option Header → IdSets
lent_by ids None = no_ids
lent_by ids (Some h) = lent ids h.owner

abbrev pub lent_at : World → IdSets → Name → IdSets
lent_at w ids n = lent_by ids (header_at w n)

-- the node at the end of a path, if a translator waits there; any refusal is passed over
abbrev pub asleep : Result Landing Errno → Option Name
asleep (Ok (Lands n)) = None
asleep (Ok (Sleeps n)) = Some n
asleep (Err e) = None

-- the first node at which a translator waits at the end of one of these paths
abbrev pub first_asleep : World → IdSets → List (List ℕ) → Option Name
first_asleep w ids [] = None
first_asleep w ids (path ∷ paths) = option_or (asleep (path_end w ids path)) (first_asleep w ids paths)

-- the node whose translator is to be started before the one that waits on this node
abbrev pub needed : World → IdSets → Name → Option Name
needed w ids n = first_asleep w (lent_at w ids n) (words_aims (words_at w n))

-- this node, where no other is needed; else on at that
abbrev pub or_needed : Name → (Name → Result Name Errno) → Option Name → Result Name Errno
or_needed n onward None = Ok n
or_needed n onward (Some m) = onward m

-- with so many nodes that may be asked: ELOOP where one more is wanted
abbrev pub first_among : ℕ → World → IdSets → Name → Result Name Errno
first_among zero w ids n = Err ELOOP
first_among (suc k) w ids n = or_needed n (first_among k w ids) (needed w ids n)

-- the one that the lookup comes to, and 8 that are needed one for the other
abbrev pub most_asked : ℕ
most_asked = 9

-- the node whose translator is to be started first by a task with these ids, that the one on this node can be started
abbrev pub first_unstarted : World → IdSets → Name → Result Name Errno
first_unstarted w ids n = first_among most_asked w ids n

-- what the code finds

-- whether the words after a program's name are paths at which its server aims
unfoldable pub says_aims : List ℕ → List (List ℕ) → Bool
says_aims program ws = if bytes_eq program (codes "/hurd/firmlink") then is_some (firm_text ws) else bytes_eq program (codes "/hurd/union") && is_some (union_text ws)

-- there are targets to be looked at
abbrev pub HasAims : World → Name → Type 0
HasAims w n = words_aims (words_at w n) ≢ []

-- what waits at the end of a path, if something does; only ENOMEM is not passed over
abbrev pub passed : Result Landing Errno → Result (Option Name) Errno
passed (Ok l) = Ok (asleep (Ok l))
passed (Err e) = if is_no_memory e then Err ENOMEM else Ok None

-- the node that is wanted, if one is, which can be started; or memory was wanting, where there are paths
abbrev pub FindsAsleep : World → List (List ℕ) → Option Name → Result (Option Name) Errno → Type 0
FindsAsleep w paths wanted (Ok o) = (wanted ≡ o) × IfSome o (HasWords w)
FindsAsleep w paths wanted (Err e) = (e ≡ ENOMEM) × (paths ≢ [])

-- the first to be started, which can be where the node itself can; or memory was wanting, where there are targets
abbrev pub FindsFirst : World → IdSets → Name → Result Name Errno → Type 0
FindsFirst w ids n (Ok m) = (first_unstarted w ids n ≡ Ok m) × (HasWords w n → HasWords w m)
FindsFirst w ids n (Err e) = (first_unstarted w ids n ≡ Err e) ⊎ ((e ≡ ENOMEM) × HasAims w n)
