-- Who may change what: the authority of a set of tasks over each part of a world, and the law that nothing else changes.
use Rattle.std.specs.Prelude.{◌≡◌, ◌≢◌, ◌⊎◌, ◌<◌, ℕ, Bool, true, false, List, Some, None}
use Rattle.hurd_creds.specs.declared.name.Name.{Name}
use Rattle.hurd_creds.specs.declared.attrs.Kind.TheVariants.{Dir}
use Rattle.hurd_creds.specs.declared.attrs.Want.TheVariants.{Write}
use Rattle.hurd_creds.specs.Access.{IdSets, may, owns}
use Rattle.hurd_creds.specs.Bits.{asks, READ, WRITE}
use Rattle.hurd_trans_iface.specs.Nodes.{Body, Header, is_dir}
use Rattle.hurd_trans_iface.specs.Answers.{entry_of}
use Rattle.hurd_trans_iface.specs.Meaning.{keeps_tree}
use Rattle.hurd_nodes.specs.Shown.{ServerInfo, boot_name, tree_by}
use Rattle.hurd_ports.specs.declared.table.Opened.{Opened}
use Rattle.hurd_ports.specs.declared.table.IoRight.{IoRight}
use Rattle.hurd_ports.specs.declared.table.Right.{Right}
use Rattle.hurd_ports.specs.declared.table.Right.TheVariants.{Io, Control, Start}
use Rattle.hurd_ports.specs.Tables.{Task}
use Rattle.hurd_ports.specs.Steps.{with_sent}
use Rattle.std.specs.Option.{option_map}
use Rattle.hurd_machine.specs.Calls.{Call}
use Rattle.hurd_machine.specs.World.{World, task_at, open_at, header_at, body_at, home_at, active_at, server_at, stream_at, counts_at}
use Rattle.hurd_machine.specs.Sight.{bare, Holds, Seen, Part, AttrOf, EmptyOf, BodyOf, EndsOf, OpenOf, OptionsOf, TextOf, UsersOf, TotalOf, TaskOf, IsGone, Sees, part}
use Rattle.hurd_machine.specs.Sound.{Sound}
use Rattle.hurd_dirs.specs.Entry.{may_take}
use Rattle.hurd_laws.specs.Step.{after}
use Rattle.hurd_laws.specs.Laws.{IsOld}

-- S has the node n open for this
pub record HasOpen (S : ℕ → Bool) (w : World) (n : Name) (mode : ℕ) : Type 0 where
  pub right : IoRight
  pub held : Holds S w (Io right)
  pub node : n ≡ right.node
  pub opened : Opened
  pub is_open : open_at w right.open_name ≡ Some opened
  pub modes : asks opened.modes mode ≡ true

-- S owns the node n: it holds a right to use it, whose ids hold its owner's uid, or 0
pub record Owns (S : ℕ → Bool) (w : World) (n : Name) : Type 0 where
  pub right : IoRight
  pub held : Holds S w (Io right)
  pub node : n ≡ right.node
  pub header : Header
  pub is_header : header_at w n ≡ Some header
  pub owned : owns right.ids (bare header) ≡ true

-- ids that S acts with: those of a task, or of a right, each by themselves
pub data ActsWith (S : ℕ → Bool) (w : World) (ids : IdSets) : Type 0 where
  AsTask : (t : ℕ) → S t ≡ true → (x : Task) → task_at w t ≡ Some x → ids ≡ x.ids → ActsWith S w ids
  ByRight : (r : IoRight) → Holds S w (Io r) → ids ≡ r.ids → ActsWith S w ids

-- S may make entries in the directory d, and take them away: it sees it, and acts with ids that may write it
pub record Enters (S : ℕ → Bool) (w : World) (d : Name) : Type 0 where
  pub seen : Seen S w d
  pub ids : IdSets
  pub acts : ActsWith S w ids
  pub header : Header
  pub is_header : header_at w d ≡ Some header
  pub kind : header.kind ≡ Dir
  pub may : may ids (bare header) Write ≡ true

-- S may take the entry of this name, which names the node n, out of the directory d: it acts with ids that may write that, and that the sticky rule lets take n
pub record TakesEntry (S : ℕ → Bool) (w : World) (d : Name) (name : List ℕ) (n : Name) : Type 0 where
  pub names : entry_of name (body_at w d) ≡ Some n
  pub ids : IdSets
  pub acts : ActsWith S w ids
  pub header : Header
  pub is_header : header_at w d ≡ Some header
  pub may : may ids (bare header) Write ≡ true
  pub taken : Header
  pub is_taken : header_at w n ≡ Some taken
  pub sticky : may_take ids header taken ≡ true

-- S may take the node n out of some directory
pub record Takes (S : ℕ → Bool) (w : World) (n : Name) : Type 0 where
  pub at : Name
  pub entry : List ℕ
  pub takes : TakesEntry S w at entry n

-- S may send the server s away, which is not the boot server: it controls it, or owns the node on which it is active
pub data Rules (S : ℕ → Bool) (w : World) (s : Name) : Type 0 where
  ByControl : Holds S w (Control s) → s ≢ boot_name → Rules S w s
  BySeat : (n : Name) → active_at w n ≡ Some s → Owns S w n → Rules S w s

-- why the size of a node may change: S writes it, or drains it, or gives its server another text, where that keeps no tree
pub data MaySize (S : ℕ → Bool) (w : World) (n : Name) : Type 0 where
  Written : HasOpen S w n WRITE → MaySize S w n
  Drained : HasOpen S w n READ → stream_at w n ≡ true → MaySize S w n
  RootOf : (s : Name) (i : ServerInfo) → Holds S w (Control s) → server_at w s ≡ Some i → keeps_tree i.kind ≡ false → n ≡ i.root → MaySize S w n

-- S may name the node n in a directory: it holds a right to use n, and may enter that directory
pub record MayName (S : ℕ → Bool) (w : World) (n : Name) : Type 0 where
  pub right : IoRight
  pub held : Holds S w (Io right)
  pub node : n ≡ right.node
  pub at : Name
  pub enters : Enters S w at

-- why its links may: S takes it out of a directory, or names it in one
pub data MayLink (S : ℕ → Bool) (w : World) (n : Name) : Type 0 where
  TakenOut : Takes S w n → MayLink S w n
  Named : MayName S w n → MayLink S w n

-- why it may change how many opens read and write it: its server is told, and S sees it
pub record MayCount (S : ℕ → Bool) (w : World) (n : Name) : Type 0 where
  pub counts : counts_at w n ≡ true
  pub seen : Seen S w n

-- why it may change what is active on it: S owns it, or is to start what waits there, or may send away what is active
pub data MaySeat (S : ℕ → Bool) (w : World) (n : Name) : Type 0 where
  OnOwn : Owns S w n → MaySeat S w n
  Started : Holds S w (Start n) → MaySeat S w n
  SentAway : (s : Name) → Rules S w s → active_at w n ≡ Some s → MaySeat S w n

-- why attributes may change, what is active on a node among them: each by its own reason, or the node goes with its server
pub data MayAttr (S : ℕ → Bool) (w : World) (n : Name) : Type 0 where
  Owned : Owns S w n → MayAttr S w n
  Sized : MaySize S w n → MayAttr S w n
  Linked : MayLink S w n → MayAttr S w n
  Seated : MaySeat S w n → MayAttr S w n
  Served : (s : Name) → Rules S w s → home_at w n ≡ Some s → MayAttr S w n

-- why entries may
pub data MayEntries (S : ℕ → Bool) (w : World) (n : Name) : Type 0 where
  Entered : Enters S w n → MayEntries S w n
  Gone : (s : Name) → Rules S w s → home_at w n ≡ Some s → MayEntries S w n

-- why bytes or entries may
pub data MayBody (S : ℕ → Bool) (w : World) (n : Name) : Type 0 where
  ToWrite : HasOpen S w n WRITE → MayBody S w n
  ToDrain : HasOpen S w n READ → stream_at w n ≡ true → MayBody S w n
  ToEnter : MayEntries S w n → MayBody S w n

-- how many opens read and write it: by its reason, or the node goes with its server
pub data MayEnds (S : ℕ → Bool) (w : World) (n : Name) : Type 0 where
  ByOpens : MayCount S w n → MayEnds S w n
  WithServer : (s : Name) → Rules S w s → home_at w n ≡ Some s → MayEnds S w n

-- n is a file of the server s, with this header
pub record IsFileOf (w : World) (s n : Name) (h : Header) : Type 0 where
  pub home : home_at w n ≡ Some s
  pub is_header : header_at w n ≡ Some h
  pub file : is_dir h.kind ≡ false

-- why what a server's files that entries name have in all may: S writes one of them, gives one its first name, takes its last one out,
-- or may send the server away
pub data MayTotal (S : ℕ → Bool) (w : World) (s : Name) : Type 0 where
  BySize : (n : Name) (h : Header) → IsFileOf w s n h → 0 < h.links → HasOpen S w n WRITE → MayTotal S w s
  ByFirst : (n : Name) (h : Header) → IsFileOf w s n h → h.links ≡ 0 → MayName S w n → MayTotal S w s
  ByLast : (n : Name) (h : Header) → IsFileOf w s n h → h.links ≡ 1 → Takes S w n → MayTotal S w s
  ByServer : Rules S w s → MayTotal S w s

-- S may change this part
abbrev pub MayChange : (ℕ → Bool) → World → Part → Type 0
MayChange S w (AttrOf n) = MayAttr S w n
MayChange S w (EmptyOf n) = MayEntries S w n
MayChange S w (BodyOf n) = MayBody S w n
MayChange S w (EndsOf n) = MayEnds S w n
MayChange S w (OpenOf o) = (r : IoRight) × Holds S w (Io r) × (r.open_name ≡ o)
MayChange S w (OptionsOf s) = Rules S w s ⊎ (Holds S w (Control s) × (tree_by (server_at w s) ≡ true))
MayChange S w (TextOf s) = Holds S w (Control s) ⊎ Rules S w s
MayChange S w (UsersOf s) = ((n : Name) × Seen S w n × (home_at w n ≡ Some s)) ⊎ Rules S w s
MayChange S w (TotalOf s) = MayTotal S w s
MayChange S w (TaskOf q) = S q ≡ true

-- a task of others has its inbox alone changed: a right of S came last into it
pub record Delivered (S : ℕ → Bool) (w x : World) (q : ℕ) : Type 0 where
  pub right : Right
  pub held : Holds S w right
  pub is_last : task_at x q ≡ option_map (with_sent right) (task_at w q)

abbrev pub IsDelivered : (ℕ → Bool) → World → World → Part → Type 0
IsDelivered S w x (TaskOf q) = Delivered S w x q
IsDelivered S w x p = ⊥

-- what is gone, so that nobody sees it
abbrev pub IsLost : World → Part → Type 0
IsLost x p = IsGone x p × ((S : ℕ → Bool) → Sees S x p → ⊥)

-- what of a node its owner alone changes: its kind, its owner, group and mode, and the words that are stored with it
pub record SameOwned (h k : Header) : Type 0 where
  pub kind : k.kind ≡ h.kind
  pub owner : k.owner ≡ h.owner
  pub group : k.group ≡ h.group
  pub mode : k.mode ≡ h.mode
  pub words : k.passive ≡ h.passive

-- of a header each attribute changes by its own reason alone
pub record ByReason (S : ℕ → Bool) (w : World) (n : Name) (h k : Header) : Type 0 where
  pub owned : (Owns S w n → ⊥) → SameOwned h k
  pub size : (MaySize S w n → ⊥) → k.size ≡ h.size
  pub links : (MayLink S w n → ⊥) → k.links ≡ h.links
  pub parent : (Takes S w n → ⊥) → k.parent ≡ h.parent

-- of what is under a name in a directory: a node stays there unless S may take its entry, and where nothing is, nothing comes unless S may enter it
pub record EntryByReason (S : ℕ → Bool) (w : World) (d : Name) (name : List ℕ) (b : Body) : Type 0 where
  pub stays : (n : Name) → entry_of name (body_at w d) ≡ Some n → (TakesEntry S w d name n → ⊥) → entry_of name (Some b) ≡ Some n
  pub free : entry_of name (body_at w d) ≡ None → (Enters S w d → ⊥) → entry_of name (Some b) ≡ None

-- a step of task t leads from w to x: whatever set S has the task, this has changed by what S may do alone
pub record KeepsIntegrity (w : World) (t : ℕ) (x : World) : Type 0 where
  -- a part that S may not change stays as it was; or it goes, as nobody sees it any more; or it is a task, which is sent a right
  pub parts : (S : ℕ → Bool) (p : Part) → S t ≡ true → IsOld w p → (MayChange S w p → ⊥) → (part x p ≡ part w p) ⊎ (IsLost x p ⊎ IsDelivered S w x p)
  -- of a node that was there and is there yet each attribute has changed by its own reason, and so has what is active on it
  pub attributes : (S : ℕ → Bool) (n : Name) (h k : Header) → S t ≡ true → header_at w n ≡ Some h → header_at x n ≡ Some k
      → ByReason S w n h k × ((MaySeat S w n → ⊥) → active_at x n ≡ active_at w n)
  -- in a directory an entry has gone or come by its reason
  pub entries : (S : ℕ → Bool) (d : Name) (name : List ℕ) (h : Header) (b : Body) → S t ≡ true → header_at w d ≡ Some h → body_at x d ≡ Some b → EntryByReason S w d name b

-- each step does
abbrev pub Integrity : Type 0
Integrity = (w : World) (t : ℕ) (c : Call) → Sound w → KeepsIntegrity w t (after w t c)
