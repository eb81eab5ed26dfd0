-- How the parts that a call touches are said.
use Rattle.std.specs.Prelude.{◌≡◌, ◌≢◌, ◌⊎◌, ℕ, true, false, Option, Some, None, Result, Ok, Err}
use Rattle.hurd_creds.specs.declared.name.Name.{Name}
use Rattle.hurd_creds.specs.declared.errno.Errno.{Errno}
use Rattle.hurd_trans_iface.specs.Nodes.{Header, is_dir}
use Rattle.hurd_trans_iface.specs.Behaviour.{Did, size_left}
use Rattle.hurd_trans_iface.specs.Totals.{counts_for}
use Rattle.hurd_nodes.specs.Shown.{tree_by}
use Rattle.hurd_ports.specs.declared.table.Right.{Right}
use Rattle.hurd_ports.specs.declared.table.Right.TheVariants.{Io, Control, Start}
use Rattle.hurd_machine.specs.World.{World, header_at, info_at, home_at, active_at, counts_at}
use Rattle.hurd_machine.specs.Sight.{Part, AttrOf, EmptyOf, BodyOf, EndsOf, OpenOf, OptionsOf, TextOf, UsersOf, TotalOf}

-- the parts that follow from what a call asks; a refused call touches none
unfoldable pub asked_parts : {A : Type 0} → Result A Errno → (A → Part → Type 0) → Part → Type 0
asked_parts (Err e) k p = ⊥
asked_parts (Ok a) k p = k a p

-- no part
abbrev pub Nothing : Part → Type 0
Nothing p = ⊥

-- a right on a node comes or goes: the users of its server
abbrev pub OnNode : World → Name → Part → Type 0
OnNode w n p = (s : Name) × (home_at w n ≡ Some s) × (p ≡ UsersOf s)

-- a right that stands comes or goes: its open too
abbrev pub OnRight : World → Right → Part → Type 0
OnRight w (Io r) p = (p ≡ OpenOf r.open_name) ⊎ OnNode w r.node p
OnRight w (Control s) p = ⊥
OnRight w (Start n) p = ⊥

-- how often a node is open, where its server is told
abbrev pub OnEnds : World → Name → Part → Type 0
OnEnds w n p = (counts_at w n ≡ true) × (p ≡ EndsOf n)

-- a node is opened
abbrev pub OnOpen : World → Name → Part → Type 0
OnOpen w n p = OnNode w n p ⊎ OnEnds w n p

-- a right goes, and with it maybe its open
abbrev pub OnDrop : World → Right → Part → Type 0
OnDrop w (Io r) p = OnRight w (Io r) p ⊎ OnEnds w r.node p
OnDrop w q p = OnRight w q p

-- a server goes with its nodes, and leaves its seat
abbrev pub Goes : World → Name → Part → Type 0
Goes w s (AttrOf n) = (home_at w n ≡ Some s) ⊎ (active_at w n ≡ Some s)
Goes w s (EmptyOf n) = home_at w n ≡ Some s
Goes w s (BodyOf n) = home_at w n ≡ Some s
Goes w s (EndsOf n) = home_at w n ≡ Some s
Goes w s (OptionsOf q) = q ≡ s
Goes w s (TextOf q) = q ≡ s
Goes w s (UsersOf q) = q ≡ s
Goes w s (TotalOf q) = q ≡ s
Goes w s p = ⊥

abbrev pub Changes : {X : Type 0} → Option X → Type 0
Changes None = ⊥
Changes (Some f) = Unit {0}

-- the total of a node's server, which keeps a tree
abbrev pub OnTotal : World → Name → Part → Type 0
OnTotal w n p = (s : Name) × (home_at w n ≡ Some s) × (tree_by (info_at w n) ≡ true) × (p ≡ TotalOf s)

-- a node comes to count for more or for less
abbrev pub Resizes : World → Name → (Header → Header) → Type 0
Resizes w n f = (h : Header) × (header_at w n ≡ Some h) × (counts_for (f h) ≢ counts_for h)

-- what a server does to a node: its body where bytes change, its attributes where the size does, the total where an entry names the file too
abbrev pub OnDid : {T : Type 0} → World → Name → Did T → Part → Type 0
OnDid w n d p = (Changes d.bytes × (p ≡ BodyOf n)) ⊎ ((Changes d.size × (p ≡ AttrOf n)) ⊎ (Resizes w n (size_left d.size) × OnTotal w n p))

-- the total, where a file has so many links: none, and it gets one, or one, and it loses that
abbrev pub OnLinks : World → Name → ℕ → Part → Type 0
OnLinks w n k p = ((h : Header) × (header_at w n ≡ Some h) × (is_dir h.kind ≡ false) × (h.links ≡ k)) × OnTotal w n p
