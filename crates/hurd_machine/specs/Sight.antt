-- Whom a set of tasks may act for, which nodes it sees, and which parts of a world.
use Rattle.std.specs.Prelude.{◌≡◌, ◌≢◌, ◌⊎◌, ◌↔◌, ◌&&◌, ◌||◌, ℕ, Bool, true, false, List, Option, Some, None, is_some, length}
use Rattle.std.specs.Option.{option_map}
use Rattle.hurd_creds.specs.declared.name.Name.{Name}
use Rattle.hurd_creds.specs.declared.attrs.Kind.TheVariants.{Dir}
use Rattle.hurd_creds.specs.declared.attrs.Want.{Want}
use Rattle.hurd_creds.specs.declared.attrs.Want.TheVariants.{Read, Write, Exec}
use Rattle.hurd_creds.specs.declared.attrs.Attrs.{Attrs}
use Rattle.hurd_creds.specs.declared.open_flags.OpenFlags.{OpenFlags}
use Rattle.hurd_creds.specs.Access.{IdSets, holds_uid, holds_gid, may}
use Rattle.hurd_creds.specs.Bits.{asks, READ, WRITE}
use Rattle.hurd_trans_iface.specs.Nodes.{Header, Body, attrs_with, is_empty_dir}
use Rattle.hurd_trans_iface.specs.Answers.{entry_of}
use Rattle.hurd_trans_iface.specs.Meaning.{keeps_tree, limit_of, root_of}
use Rattle.hurd_trans_iface.specs.declared.begun.ServerKind.{ServerKind}
use Rattle.hurd_trans_iface.specs.Texts.{reads_text, told_text}
use Rattle.hurd_nodes.specs.declared.seat.Site.{Site}
use Rattle.hurd_creds.specs.NameMaps.{NameMap}
use Rattle.hurd_creds.specs.Names.{is_one}
use Rattle.hurd_nodes.specs.Held.{home_in}
use Rattle.hurd_nodes.specs.Shown.{ServerInfo, boot_name, with_text}
use Rattle.hurd_ports.specs.declared.table.Ends.{Ends}
use Rattle.hurd_ports.specs.declared.table.Opened.{Opened}
use Rattle.hurd_ports.specs.declared.parents.Parent.{Parent as Pair}
use Rattle.hurd_ports.specs.declared.table.IoRight.{IoRight}
use Rattle.hurd_ports.specs.declared.table.Right.{Right}
use Rattle.hurd_ports.specs.declared.table.Right.TheVariants.{Io, Control, Start}
use Rattle.hurd_ports.specs.Tables.{Task, rights_of, count_rights, names_open}
use Rattle.hurd_machine.specs.World.{World, IsAmong, boot_root, task_at, open_at, header_at, body_at, site_at, home_at, active_at, counts_at, ends_at, server_at, total_at}

-- a node's attributes as far as its header says them
abbrev pub bare : Header → Attrs
bare h = attrs_with h false

-- a task of S has the right r
pub record Holds (S : ℕ → Bool) (w : World) (r : Right) : Type 0 where
  pub task : ℕ
  pub ours : S task ≡ true
  pub seat : Task
  pub is_task : task_at w task ≡ Some seat
  pub here : IsAmong r (rights_of seat)

-- a task of S, or a right of one, holds the uid u
pub data HasUid (S : ℕ → Bool) (w : World) (u : ℕ) : Type 0 where
  UidOfTask : (t : ℕ) → S t ≡ true → (x : Task) → task_at w t ≡ Some x → holds_uid x.ids u ≡ true → HasUid S w u
  UidOfRight : (r : IoRight) → Holds S w (Io r) → holds_uid r.ids u ≡ true → HasUid S w u

-- a task of S, or a right of one, holds the gid g
pub data HasGid (S : ℕ → Bool) (w : World) (g : ℕ) : Type 0 where
  GidOfTask : (t : ℕ) → S t ≡ true → (x : Task) → task_at w t ≡ Some x → holds_gid x.ids g ≡ true → HasGid S w g
  GidOfRight : (r : IoRight) → Holds S w (Io r) → holds_gid r.ids g ≡ true → HasGid S w g

-- ids that S holds, all of them
pub record Taken (S : ℕ → Bool) (w : World) (ids : IdSets) : Type 0 where
  pub uids : (u : ℕ) → holds_uid ids u ≡ true → HasUid S w u
  pub gids : (g : ℕ) → holds_gid ids g ≡ true → HasGid S w g

-- S holds the owner of a node of this header, or 0
abbrev pub OwnsIt : (ℕ → Bool) → World → Header → Type 0
OwnsIt S w h = (u : ℕ) × HasUid S w u × ((u ≡ h.owner) ⊎ (u ≡ 0))

-- S could do this with a node of this header: it holds the owner or 0, or ids that may
pub data Could (S : ℕ → Bool) (w : World) (h : Header) (want : Want) : Type 0 where
  Owns : (u : ℕ) → HasUid S w u → (u ≡ h.owner) ⊎ (u ≡ 0) → Could S w h want
  Allowed : (ids : IdSets) → Taken S w ids → may ids (bare h) want ≡ true → Could S w h want

-- S holds the uid of a server, or 0
abbrev pub CouldServe : (ℕ → Bool) → World → ServerInfo → Type 0
CouldServe S w i = (u : ℕ) × HasUid S w u × ((holds_uid i.ids u ≡ true) ⊎ (u ≡ 0))

-- the nodes that S sees
pub data Seen (S : ℕ → Bool) (w : World) : Name → Type 0 where
  -- the boot root
  Root : {n : Name} → n ≡ boot_root → Seen S w n
  -- the node of a right
  Held : {n : Name} (r : IoRight) → Holds S w (Io r) → n ≡ r.node → Seen S w n
  -- both nodes of each way that a right came in by
  Way : {n : Name} (r : IoRight) (p : Pair) → Holds S w (Io r) → IsAmong p r.parents → (n ≡ p.at) ⊎ (n ≡ p.parent) → Seen S w n
  -- the root of a server that S controls
  Controlled : {n : Name} (s : Name) (i : ServerInfo) → Holds S w (Control s) → server_at w s ≡ Some i → n ≡ i.root → Seen S w n
  -- a node whose translator a task of S is to start
  Pending : {n : Name} → Holds S w (Start n) → Seen S w n
  -- what a seen directory has, where S could search it
  Child : {n : Name} (d : Name) (h : Header) (name : List ℕ) → Seen S w d → header_at w d ≡ Some h
      → h.kind ≡ Dir → Could S w h Exec
      → entry_of name (body_at w d) ≡ Some n → Seen S w n
  -- the parent of a seen directory
  Parent : {n : Name} (d : Name) (h : Header) → Seen S w d → header_at w d ≡ Some h → h.parent ≡ Some n → Seen S w n
  -- the root of the server that is active on a seen node
  Active : {n : Name} (m s : Name) (i : ServerInfo) → Seen S w m → active_at w m ≡ Some s → server_at w s ≡ Some i → n ≡ i.root → Seen S w n
  -- the root of the server of a seen node, where S could serve it
  ServerRoot : {n : Name} (m s : Name) (i : ServerInfo) → Seen S w m → home_at w m ≡ Some s → server_at w s ≡ Some i
      → CouldServe S w i → n ≡ i.root → Seen S w n
  -- what the server of a seen node aims at, and the one that is active on it
  Target : {n : Name} (m s : Name) (i : ServerInfo) → Seen S w m → (home_at w m ≡ Some s) ⊎ (active_at w m ≡ Some s) → server_at w s ≡ Some i
      → IsAmong n i.targets → Seen S w n

-- why S may send a server away: it controls it, it sees a node of it and could serve it, or it sees and owns the node on
-- which it is active
pub data Sends (S : ℕ → Bool) (w : World) (s : Name) (i : ServerInfo) : Type 0 where
  ByControl : Holds S w (Control s) → Sends S w s i
  ByNode : (n : Name) → Seen S w n → home_at w n ≡ Some s → CouldServe S w i → Sends S w s i
  BySeat : (n : Name) (h : Header) → Seen S w n → active_at w n ≡ Some s → header_at w n ≡ Some h → OwnsIt S w h → Sends S w s i

-- S may send a server away, which is not the boot server
pub record MaySend (S : ℕ → Bool) (w : World) (s : Name) : Type 0 where
  pub info : ServerInfo
  pub is_server : server_at w s ≡ Some info
  pub other : s ≢ boot_name
  pub why : Sends S w s info

-- why S knows a server: it sees a node of it or one on which it is active, or controls it
pub data Knows (S : ℕ → Bool) (w : World) (s : Name) : Type 0 where
  OfNode : (n : Name) → Seen S w n → home_at w n ≡ Some s → Knows S w s
  OfSeat : (n : Name) → Seen S w n → active_at w n ≡ Some s → Knows S w s
  OfControl : Holds S w (Control s) → Knows S w s

-- why S sees the total of a tree: it knows the server, and there is a limit, or S may set one
pub record SeesTotal (S : ℕ → Bool) (w : World) (s : Name) : Type 0 where
  pub info : ServerInfo
  pub is_server : server_at w s ≡ Some info
  pub knows : Knows S w s
  pub tree : keeps_tree info.kind ≡ true
  pub why : (is_some (limit_of info.kind info.text) ≡ true) ⊎ Sends S w s info

-- the parts of a world
pub data Part : Type 0 where
  AttrOf : Name → Part  -- a node's server, the one active on it, and its attributes, but whether it is empty
  EmptyOf : Name → Part  -- whether a directory is empty
  BodyOf : Name → Part  -- a node's bytes or entries
  EndsOf : Name → Part  -- how many opens read a node, and how many write it, where its server is told
  OpenOf : Name → Part  -- an open, and how many rights hold it
  OptionsOf : Name → Part  -- a server, except for its text, unless that is a link's or a tree's
  TextOf : Name → Part  -- the text of a server
  UsersOf : Name → Part  -- how many rights there are on a server's nodes
  TotalOf : Name → Part  -- what the files of a server that entries name have in all
  TaskOf : ℕ → Part  -- a task

-- whether an open with these modes tells what is in a node, whose server is told who reads and who writes or isn't
abbrev pub tells : Bool → OpenFlags → Bool
tells counts modes = asks modes READ || (counts && asks modes WRITE)

-- why S sees a body
pub data SeesBody (S : ℕ → Bool) (w : World) (n : Name) (h : Header) : Type 0 where
  ToRead : Could S w h Read → SeesBody S w n h
  ToSearch : h.kind ≡ Dir → Could S w h Exec → SeesBody S w n h
  -- what a fifo takes tells what is in it
  ToPut : counts_at w n ≡ true → Could S w h Write → SeesBody S w n h
  IsOpen : (r : IoRight) → Holds S w (Io r) → n ≡ r.node → (o : Opened) → open_at w r.open_name ≡ Some o → tells (counts_at w n) o.modes ≡ true
      → SeesBody S w n h

-- why S sees whether a directory is empty: it sees the entries, or could write the parent
pub data SeesEmpty (S : ℕ → Bool) (w : World) (n : Name) (h : Header) : Type 0 where
  ByBody : SeesBody S w n h → SeesEmpty S w n h
  ByParent : (p : Name) (a : Header) → h.parent ≡ Some p → header_at w p ≡ Some a → Could S w a Write → SeesEmpty S w n h

-- why S sees the text of a server: it may send it away, and so may control it, or it sees what is in its root, and reading that gives the text
pub data SeesText (S : ℕ → Bool) (w : World) (s : Name) (i : ServerInfo) : Type 0 where
  ToControl : Sends S w s i → SeesText S w s i
  InRoot : reads_text (root_of i.kind i.text) ≡ true → Seen S w i.root → home_at w i.root ≡ Some s → (h : Header) → header_at w i.root ≡ Some h → SeesBody S w i.root h → SeesText S w s i

-- S sees what is in a node
abbrev pub SeesInside : (ℕ → Bool) → World → Name → Type 0
SeesInside S w n = Seen S w n × (h : Header) × (header_at w n ≡ Some h) × SeesBody S w n h

-- the parts that S sees
abbrev pub Sees : (ℕ → Bool) → World → Part → Type 0
Sees S w (AttrOf n) = Seen S w n
Sees S w (EmptyOf n) = Seen S w n × (h : Header) × (header_at w n ≡ Some h) × (h.kind ≡ Dir) × SeesEmpty S w n h
Sees S w (BodyOf n) = SeesInside S w n
Sees S w (EndsOf n) = (counts_at w n ≡ true) × SeesInside S w n
Sees S w (OpenOf o) = (r : IoRight) × Holds S w (Io r) × (r.open_name ≡ o)
Sees S w (OptionsOf s) = Knows S w s
Sees S w (TextOf s) = (i : ServerInfo) × (server_at w s ≡ Some i) × SeesText S w s i
Sees S w (UsersOf s) = MaySend S w s
Sees S w (TotalOf s) = SeesTotal S w s
Sees S w (TaskOf t) = S t ≡ true

-- whether a right is to use a node that a server has, by these sites
abbrev pub uses_server : NameMap Site → Name → Right → Bool
uses_server sites s (Io r) = is_one s (home_in sites r.node)
uses_server sites s (Control q) = false
uses_server sites s (Start n) = false

-- whether a right is on a node of the server
abbrev pub is_on : World → Name → Right → Bool
is_on w s r = uses_server w.sites s r

-- how many rights name the open
abbrev pub holders : World → Name → ℕ
holders w o = count_rights (names_open o) w.tasks

-- how many rights there are on nodes of the server
abbrev pub users : World → Name → ℕ
users w s = count_rights (is_on w s) w.tasks

-- the text that whoever knows a server of this kind is told: a link's, and a tree's, which is its limit
abbrev pub known_text : ServerKind → List ℕ → List ℕ
known_text k text = told_text (root_of k text) text

-- a server as whoever knows it sees it: without its text, unless that is a link's or a tree's
abbrev pub faced : ServerInfo → ServerInfo
faced i = with_text (known_text i.kind i.text) i

-- what a part is
pub data Value : Type 0 where
  AnAttr : Option Header → Option Site → Value
  AnEmpty : Option Bool → Value
  ABody : Option Body → Value
  AnEnds : Option Ends → Value
  AnOpen : Option Opened → ℕ → Value
  AnOptions : Option ServerInfo → Value
  AText : Option (List ℕ) → Value
  AUsers : ℕ → Value
  ATotal : Option ℕ → Value
  ATask : Option Task → Value

-- the value of each part in a world
abbrev pub part : World → Part → Value
part w (AttrOf n) = AnAttr (header_at w n) (site_at w n)
part w (EmptyOf n) = AnEmpty (option_map is_empty_dir (body_at w n))
part w (BodyOf n) = ABody (body_at w n)
part w (EndsOf n) = AnEnds (ends_at w n)
part w (OpenOf o) = AnOpen (open_at w o) (holders w o)
part w (OptionsOf s) = AnOptions (option_map faced (server_at w s))
part w (TextOf s) = AText (option_map (λ (i : ServerInfo). i.text) (server_at w s))
part w (UsersOf s) = AUsers (users w s)
part w (TotalOf s) = ATotal (total_at w s)
part w (TaskOf t) = ATask (task_at w t)

-- what the part is of is gone: it shows nothing
abbrev pub IsGone : World → Part → Type 0
IsGone w (AttrOf n) = part w (AttrOf n) ≡ AnAttr None None
IsGone w (EmptyOf n) = part w (EmptyOf n) ≡ AnEmpty None
IsGone w (BodyOf n) = part w (BodyOf n) ≡ ABody None
IsGone w (EndsOf n) = part w (EndsOf n) ≡ AnEnds None
IsGone w (OptionsOf s) = part w (OptionsOf s) ≡ AnOptions None
IsGone w (TextOf s) = part w (TextOf s) ≡ AText None
IsGone w (TotalOf s) = part w (TotalOf s) ≡ ATotal None
IsGone w p = ⊥

-- two worlds have the same view for S: S sees the same parts in both, and they are equal; and there are as many tasks
pub record SameView (S : ℕ → Bool) (v w : World) : Type 0 where
  pub tasks : length w.tasks ≡ length v.tasks
  pub seen : (p : Part) → Sees S v p ↔ Sees S w p
  pub parts : (p : Part) → Sees S v p → part w p ≡ part v p

-- each task of S is one of G
abbrev pub Within : (ℕ → Bool) → (ℕ → Bool) → Type 0
Within S G = (t : ℕ) → S t ≡ true → G t ≡ true

-- the parts except tasks
abbrev pub IsThing : Part → Type 0
IsThing (TaskOf t) = ⊥
IsThing p = Unit {0}
