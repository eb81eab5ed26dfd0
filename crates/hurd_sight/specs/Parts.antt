-- The parts of a world that a set of tasks sees, by sets of names.
use Rattle.std.specs.Prelude.{◌≡◌, ◌⊎◌, ◌↔◌, ℕ, Bool, true, false, List, [], ◌∷◌, ◌++◌, if◌then◌else◌, Option, Some, None, slice_get}
use Rattle.std.specs.List.{flat_map, list_any}
use Rattle.std.specs.FinMap as fin
use Rattle.hurd_nodes.specs.Held.{home_in, active_in}
use Rattle.hurd_creds.specs.declared.name.Name.{Name}
use Rattle.hurd_creds.specs.declared.name.TaskId.{TaskId}
use Rattle.hurd_creds.specs.Access.{IdSets, owns}
use Rattle.hurd_creds.specs.Bits.{asks, READ, WRITE}
use Rattle.hurd_creds.specs.Names.{same_name}
use Rattle.hurd_trans_iface.specs.Nodes.{Header, header_of}
use Rattle.hurd_nodes.specs.Shown.{NodeState, ServerInfo}
use Rattle.hurd_ports.specs.declared.table.Opened.{Opened}
use Rattle.hurd_ports.specs.declared.table.IoRight.{IoRight}
use Rattle.hurd_ports.specs.declared.table.Right.{Right}
use Rattle.hurd_ports.specs.declared.table.Right.TheVariants.{Io, Control, Start}
use Rattle.hurd_ports.specs.Tables.{OpenMap, Task, rights_of}
use Rattle.hurd_machine.specs.World.{World, active_at, header_at, home_at, open_at, server_at}
use Rattle.hurd_machine.specs.Sight.{CouldServe, Holds, OwnsIt, Part, AttrOf, EmptyOf, BodyOf, EndsOf, OpenOf, OptionsOf, TextOf, UsersOf, TotalOf, TaskOf, Seen, bare}
use Rattle.hurd_sight.specs.Reach.{serves}
use Rattle.hurd_sight.specs.declared.found.Why.{Why}
use Rattle.hurd_sight.specs.declared.held.RightNames.{RightNames}
use Rattle.hurd_sight.specs.declared.parts.SeenPart.{SeenPart}
use Rattle.hurd_sight.specs.declared.parts.SeenPart.TheVariants as seen

-- the part that is asked for
abbrev pub part_of : SeenPart → Part
part_of (seen.Attributes n) = AttrOf n
part_of (seen.Empty n) = EmptyOf n
part_of (seen.Body n) = BodyOf n
part_of (seen.Ends n) = EndsOf n
part_of (seen.Open o) = OpenOf o
part_of (seen.Options s) = OptionsOf s
part_of (seen.Text s) = TextOf s
part_of (seen.Users s) = UsersOf s
part_of (seen.Total s) = TotalOf s
part_of (seen.Task t) = TaskOf t.0

-- whether a name is one of these
abbrev pub is_in : Name → List Name → Bool
is_in n ns = list_any (same_name n) ns

-- the names of a list are those that P says
abbrev pub AreThose : List Name → (Name → Type 0) → Type 0
AreThose ns P = (n : Name) → (is_in n ns ≡ true) ↔ P n

-- one name more, unless it is there
abbrev pub named_more : Name → List Name → List Name
named_more n ns = if is_in n ns then ns else ns ++ n ∷ []

-- these names are added, one after another
abbrev pub named : List Name → List Name → List Name
named [] ns = ns
named (x ∷ xs) ns = named xs (named_more x ns)

-- a name, if there is one
abbrev pub maybe_named : Option Name → List Name
maybe_named None = []
maybe_named (Some n) = n ∷ []

-- an open that a right of S has
abbrev pub HasOpen : (ℕ → Bool) → World → Name → Type 0
HasOpen S w o = (r : IoRight) × Holds S w (Io r) × (r.open_name ≡ o)

-- a node that a right of S has open in this mode
abbrev pub HasFor : ℕ → (ℕ → Bool) → World → Name → Type 0
HasFor mode S w n = (r : IoRight) × (o : Opened) × Holds S w (Io r) × (n ≡ r.node) × (open_at w r.open_name ≡ Some o) × (asks o.modes mode ≡ true)

-- a server of a seen node, or one that is active on one
abbrev pub KnownByNode : (ℕ → Bool) → World → Name → Type 0
KnownByNode S w s = (n : Name) × Seen S w n × ((home_at w n ≡ Some s) ⊎ (active_at w n ≡ Some s))

-- a server whose uid S has and of which it sees a node, or that is active on a node that S sees and owns
abbrev pub SentByNode : (ℕ → Bool) → World → Name → Type 0
SentByNode S w s =
    (n : Name) × Seen S w n
    × (((i : ServerInfo) × (home_at w n ≡ Some s) × (server_at w s ≡ Some i) × CouldServe S w i)
    ⊎ ((h : Header) × (active_at w n ≡ Some s) × (header_at w n ≡ Some h) × OwnsIt S w h))

-- the open of a right
abbrev pub open_of : Right → List Name
open_of (Io r) = r.open_name ∷ []
open_of (Control s) = []
open_of (Start n) = []

-- whether an open is there, and in this mode
abbrev pub is_for : ℕ → Option Opened → Bool
is_for mode None = false
is_for mode (Some o) = asks o.modes mode

-- the node of a right that has it open in this mode
abbrev pub node_for : ℕ → OpenMap → Right → List Name
node_for mode opens (Io r) = if is_for mode (fin.get opens r.open_name) then r.node ∷ [] else []
node_for mode opens (Control s) = []
node_for mode opens (Start m) = []

-- the server that a right controls
abbrev pub control_of : Right → List Name
control_of (Io r) = []
control_of (Control s) = s ∷ []
control_of (Start n) = []

-- the names of a right are added, and those of several
abbrev pub with_right : OpenMap → Right → RightNames → RightNames
with_right opens q v = record {
  opens = named (open_of q) v.opens;
  readable = named (node_for READ opens q) v.readable;
  writable = named (node_for WRITE opens q) v.writable;
  controlled = named (control_of q) v.controlled;
}

abbrev pub with_rights : OpenMap → List Right → RightNames → RightNames
with_rights opens [] v = v
with_rights opens (q ∷ qs) v = with_rights opens qs (with_right opens q v)

abbrev pub no_names : RightNames
no_names = record { opens = []; readable = []; writable = []; controlled = [] }

-- the rights of a task, if it is there, and those of some tasks, one after another
abbrev pub rights_at : Option Task → List Right
rights_at None = []
rights_at (Some x) = rights_of x

abbrev pub rights_held : List Task → List TaskId → List Right
rights_held ts tasks = flat_map (λ (t : TaskId). rights_at (slice_get ts t.0)) tasks

-- of found nodes

-- what there is of an entry, if there is one
abbrev pub at_entry : (Name → List Name) → Option (Name × Why) → List Name
at_entry f None = []
at_entry f (Some e) = f e.0

-- the server of a node, and the one that is active on it
abbrev pub known_at : NodeState → Name → List Name
known_at h n = maybe_named (home_in h.sites n) ++ maybe_named (active_in h.sites n)

-- a server, where it is there and could be served with one of these uids
abbrev pub served_by : IdSets → Name → Option ServerInfo → List Name
served_by ids s None = []
served_by ids s (Some i) = if serves ids i.ids then s ∷ [] else []

abbrev pub served_in : NodeState → IdSets → Option Name → List Name
served_in h ids None = []
served_in h ids (Some s) = served_by ids s (fin.get h.servers s)

-- the server that is active on a node whose owner is among these uids, or 0
abbrev pub owned_by : IdSets → Option Header → Option Name → List Name
owned_by ids None active = []
owned_by ids (Some x) active = if owns ids (bare x) then maybe_named active else []

-- the servers of a node that may be sent away
abbrev pub sendable_at : NodeState → IdSets → Name → List Name
sendable_at h ids n = served_in h ids (home_in h.sites n) ++ owned_by ids (header_of h.nodes n) (active_in h.sites n)

-- those of all found nodes, one after another
abbrev pub of_found : (Name → List Name) → List (Name × Why) → List Name
of_found f es = flat_map (λ (e : Name × Why). f e.0) es
