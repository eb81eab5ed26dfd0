-- The nodes that a set of tasks sees, each with why.
use Rattle.std.specs.Prelude.{◌≡◌, ◌⊎◌, ◌↔◌, ℕ, suc, ◌&&◌, Bool, true, false, List, [], ◌∷◌, ◌++◌, if◌then◌else◌, Option, Some, None, Result, Ok, Err, option_and_then, slice_get, take}
use Rattle.std.specs.List.{flat_map, list_any}
use Rattle.std.specs.Option.{option_map}
use Rattle.std.specs.FinMap as fin
use Rattle.hurd_nodes.specs.Held.{home_in, active_in}
use Rattle.hurd_creds.specs.declared.name.Name.{Name}
use Rattle.hurd_creds.specs.declared.name.TaskId.{TaskId}
use Rattle.hurd_creds.specs.declared.attrs.Kind.TheVariants.{Dir}
use Rattle.hurd_creds.specs.declared.attrs.Want.TheVariants.{Exec}
use Rattle.hurd_creds.specs.declared.errno.Errno.{Errno}
use Rattle.hurd_creds.specs.Access.{IdSets}
use Rattle.hurd_creds.specs.Names.{same_name}
use Rattle.hurd_trans_iface.specs.Nodes.{Body, Header, body_of, header_of, is_dir}
use Rattle.hurd_trans_iface.specs.Answers.{entry_of, names_of}
use Rattle.hurd_nodes.specs.Shown.{NodeState, ServerInfo}
use Rattle.hurd_ports.specs.declared.parents.Parent.{Parent as Pair}
use Rattle.hurd_ports.specs.declared.table.IoRight.{IoRight}
use Rattle.hurd_ports.specs.declared.table.Right.{Right}
use Rattle.hurd_ports.specs.declared.table.Right.TheVariants.{Io, Control, Start}
use Rattle.hurd_ports.specs.Tables.{Task, rights_of}
use Rattle.hurd_machine.specs.World.{World, IsAmong, boot_root, nodes_of, active_at, body_at, header_at, home_at, server_at}
use Rattle.hurd_machine.specs.Sight.{Could, CouldServe, Holds, Seen, bare}
use Rattle.hurd_sight.specs.Reach.{Reaches, among, could_with, serves}
use Rattle.hurd_sight.specs.declared.found.Why.{Why}
use Rattle.hurd_sight.specs.declared.found.Why.TheVariants as why

-- whether a node is among those found
abbrev pub is_found : Name → List (Name × Why) → Bool
is_found n es = list_any (λ (e : Name × Why). same_name n e.0) es

-- why a node was found, if it was
abbrev pub why_of : Name → List (Name × Why) → Option Why
why_of n [] = None
why_of n (e ∷ es) = if same_name n e.0 then Some e.1 else why_of n es

-- why S sees a node, each clause by itself
abbrev pub IsWhy : (ℕ → Bool) → World → Name → Why → Type 0
IsWhy S w n why.Root = n ≡ boot_root
IsWhy S w n why.Held = (r : IoRight) × Holds S w (Io r) × (n ≡ r.node)
IsWhy S w n why.Way = (r : IoRight) × (p : Pair) × Holds S w (Io r) × IsAmong p r.parents × ((n ≡ p.at) ⊎ (n ≡ p.parent))
IsWhy S w n why.Controlled = (s : Name) × (i : ServerInfo) × Holds S w (Control s) × (server_at w s ≡ Some i) × (n ≡ i.root)
IsWhy S w n why.Pending = Holds S w (Start n)
IsWhy S w n (why.Child d) =
    (h : Header) × (name : List ℕ) × (header_at w d ≡ Some h) × (h.kind ≡ Dir) × Could S w h Exec × (entry_of name (body_at w d) ≡ Some n)
IsWhy S w n (why.Parent d) = (h : Header) × (header_at w d ≡ Some h) × (h.parent ≡ Some n)
IsWhy S w n (why.Active m) = (s : Name) × (i : ServerInfo) × (active_at w m ≡ Some s) × (server_at w s ≡ Some i) × (n ≡ i.root)
IsWhy S w n (why.ServerRoot m) = (s : Name) × (i : ServerInfo) × (home_at w m ≡ Some s) × (server_at w s ≡ Some i) × CouldServe S w i × (n ≡ i.root)
IsWhy S w n (why.Target m) = (s : Name) × (i : ServerInfo) × ((home_at w m ≡ Some s) ⊎ (active_at w m ≡ Some s)) × (server_at w s ≡ Some i) × IsAmong n i.targets

-- the node from which it was found, if it was found from one
abbrev pub found_from : Why → Option Name
found_from (why.Child d) = Some d
found_from (why.Parent d) = Some d
found_from (why.Active m) = Some m
found_from (why.ServerRoot m) = Some m
found_from (why.Target m) = Some m
found_from _ = None

-- a node from which another was found is among those before it
abbrev pub IsBefore : Option Name → List (Name × Why) → Type 0
IsBefore None es = Unit {0}
IsBefore (Some d) es = is_found d es ≡ true

-- one node more, unless it is among them
abbrev pub found_more : Name → Why → List (Name × Why) → List (Name × Why)
found_more n y es = if is_found n es then es else es ++ (n, y) ∷ []

-- these are added, one after another
abbrev pub gathered : List (Name × Why) → List (Name × Why) → List (Name × Why)
gathered [] es = es
gathered (x ∷ xs) es = gathered xs (found_more x.0 x.1 es)

-- a node with why, if there is one
abbrev pub with_why : Option Name → Why → List (Name × Why)
with_why None y = []
with_why (Some n) y = (n, y) ∷ []

-- both nodes of a way
abbrev pub of_way : Pair → List (Name × Why)
of_way p = (p.at, why.Way) ∷ (p.parent, why.Way) ∷ []

-- the root of a server that is there
abbrev pub root_of : NodeState → Name → Option Name
root_of h s = option_map (λ (i : ServerInfo). i.root) (fin.get h.servers s)

-- what a right shows: its node and those of its ways; the root of the server that it controls; the node whose translator it is to start
abbrev pub of_right : NodeState → Right → List (Name × Why)
of_right h (Io r) = (r.node, why.Held) ∷ flat_map of_way r.parents
of_right h (Control s) = with_why (root_of h s) why.Controlled
of_right h (Start m) = (m, why.Pending) ∷ []

-- what the rights of a task show, if it is there
abbrev pub of_task : NodeState → Option Task → List (Name × Why)
of_task h None = []
of_task h (Some x) = flat_map (of_right h) (rights_of x)

-- what the rights of some tasks show, one task after another
abbrev pub of_tasks : NodeState → List Task → List TaskId → List (Name × Why)
of_tasks h ts tasks = flat_map (λ (t : TaskId). of_task h (slice_get ts t.0)) tasks

-- what the entry of this name names in a directory of this body
abbrev pub of_entry : Name → Option Body → List ℕ → List (Name × Why)
of_entry d b name = with_why (entry_of name b) (why.Child d)

-- the names that are told, if any are
abbrev pub names_told : Result (List (List ℕ)) Errno → List (List ℕ)
names_told (Ok names) = names
names_told (Err e) = []

-- whether a node is a directory that could be searched with some of these ids
abbrev pub searched_by : IdSets → Option Header → Bool
searched_by ids None = false
searched_by ids (Some x) = is_dir x.kind && could_with ids (bare x) Exec

-- what the entries of a directory name that could be searched, in their order
abbrev pub of_children : NodeState → IdSets → Name → List (Name × Why)
of_children h ids d = if searched_by ids (header_of h.nodes d) then flat_map (of_entry d (body_of h.nodes d)) (names_told (names_of (body_of h.nodes d))) else []

-- the parent that a header says
abbrev pub parent_in : Option Header → Option Name
parent_in None = None
parent_in (Some x) = x.parent

abbrev pub of_parent : NodeState → Name → List (Name × Why)
of_parent h d = with_why (parent_in (header_of h.nodes d)) (why.Parent d)

-- the root of the server that is active on a node
abbrev pub of_active : NodeState → Name → List (Name × Why)
of_active h m = with_why (option_and_then (root_of h) (active_in h.sites m)) (why.Active m)

-- the root of a server that could be served
abbrev pub root_served : IdSets → ServerInfo → Option Name
root_served ids i = if serves ids i.ids then Some i.root else None

abbrev pub served_root : NodeState → IdSets → Name → Option Name
served_root h ids s = option_and_then (root_served ids) (fin.get h.servers s)

-- the root of a node's server, where that could be served
abbrev pub of_server : NodeState → IdSets → Name → List (Name × Why)
of_server h ids m = with_why (option_and_then (served_root h ids) (home_in h.sites m)) (why.ServerRoot m)

-- all that are in a list, if there is one
abbrev pub all_of : Option (List Name) → List Name
all_of None = []
all_of (Some ns) = ns

-- the targets of a server, if it is there
abbrev pub targets_of : NodeState → Option Name → List Name
targets_of h None = []
targets_of h (Some s) = all_of (option_map (λ (i : ServerInfo). i.targets) (fin.get h.servers s))

-- a target of a server of a node
abbrev pub of_target : Name → Name → List (Name × Why)
of_target m n = (n, why.Target m) ∷ []

-- the targets of a node's server, and of the one that is active on it
abbrev pub of_targets : NodeState → Name → List (Name × Why)
of_targets h m = flat_map (of_target m) (targets_of h (home_in h.sites m)) ++ flat_map (of_target m) (targets_of h (active_in h.sites m))

-- what a seen node shows to those who can act with these ids
abbrev pub of_node : NodeState → IdSets → Name → List (Name × Why)
of_node h ids m = of_children h ids m ++ (of_parent h m ++ (of_active h m ++ (of_server h ids m ++ of_targets h m)))

-- what it shows by its entries and its active server alone
abbrev pub of_plain : NodeState → IdSets → Name → List (Name × Why)
of_plain h ids m = of_children h ids m ++ of_active h m

-- and what it shows beside these
abbrev pub of_rest : NodeState → IdSets → Name → List (Name × Why)
of_rest h ids m = of_parent h m ++ (of_server h ids m ++ of_targets h m)

-- what all of some nodes show, where f says what each does
abbrev pub of_nodes : (Name → List (Name × Why)) → List (Name × Why) → List (Name × Why)
of_nodes f es = flat_map (λ (e : Name × Why). f e.0) es

-- all that follows of some nodes by f: nothing else is shown by any of them, and each next one is what comes next of those that the ones before it show
pub record AllThatFollows (f : Name → List (Name × Why)) (start es : List (Name × Why)) : Type 0 where
  pub all : es ≡ gathered (of_nodes f es) start
  pub next : (k : ℕ) → take (suc k) es ≡ take (suc k) (gathered (of_nodes f (take k es)) start)

-- all that is found, in its order: what entries and active servers show from the root on; then what rights show, and all that follows
pub record FoundAll (h : NodeState) (ts : List Task) (ids : IdSets) (tasks : List TaskId) (es : List (Name × Why)) : Type 0 where
  pub plain : List (Name × Why)
  pub first : AllThatFollows (of_plain h ids) ((boot_root, why.Root) ∷ []) plain
  pub follows : AllThatFollows (of_node h ids) (gathered (of_tasks h ts tasks) plain) es

-- there is one such list
abbrev pub FoundIsOne : Type 0
FoundIsOne =
    (h : NodeState) (ts : List Task) (ids : IdSets) (tasks : List TaskId) (es fs : List (Name × Why)) → FoundAll h ts ids tasks es → FoundAll h ts ids tasks fs → es ≡ fs

-- the nodes that S sees, and no others, each with a reason that holds, and after the node from which it was found
pub record IsSight (S : ℕ → Bool) (w : World) (es : List (Name × Why)) : Type 0 where
  pub exact : (n : Name) → (is_found n es ≡ true) ↔ Seen S w n
  pub why : (i : ℕ) (n : Name) (y : Why) → slice_get es i ≡ Some (n, y) → IsWhy S w n y × IsBefore (found_from y) (take i es)

-- what is found from the rights of some tasks, with all ids that they can act with, is what the set of these tasks sees
abbrev pub FoundIsSeen : Type 0
FoundIsSeen =
    (w : World) (tasks : List TaskId) (ids : IdSets) (es : List (Name × Why)) → Reaches (among tasks) w ids
    → FoundAll (nodes_of w) w.tasks ids tasks es → IsSight (among tasks) w es

-- whether a node is the root, or was found by an entry or an active server
abbrev pub is_plain : Why → Bool
is_plain why.Root = true
is_plain (why.Child d) = true
is_plain (why.Active m) = true
is_plain _ = false

-- the first nodes are the root and all to which entries and active servers lead from it, and each was found by these
pub record PlainFirst (S : ℕ → Bool) (w : World) (es : List (Name × Why)) : Type 0 where
  pub plain : List (Name × Why)
  pub more : List (Name × Why)
  pub both : es ≡ plain ++ more
  pub root : is_found boot_root plain ≡ true
  pub closed : (m n : Name) → is_found m plain ≡ true → IsWhy S w n (why.Child m) ⊎ IsWhy S w n (why.Active m) → is_found n plain ≡ true
  pub ways : (i : ℕ) (n : Name) (y : Why) → slice_get plain i ≡ Some (n, y) → (is_plain y ≡ true) × IsBefore (found_from y) (take i plain)

-- what entries and active servers lead to from the root is found by these, whatever else leads to it
abbrev pub PlainIsFirst : Type 0
PlainIsFirst =
    (w : World) (tasks : List TaskId) (ids : IdSets) (es : List (Name × Why)) → Reaches (among tasks) w ids
    → FoundAll (nodes_of w) w.tasks ids tasks es → PlainFirst (among tasks) w es
