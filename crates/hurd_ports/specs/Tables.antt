-- Tasks, ports and opens as values.
use Rattle.std.specs.Prelude.{◌≡◌, ℕ, ◌+◌, ◌==◌, ◌&&◌, Bool, true, false, if◌then◌else◌, List, [], ◌∷◌, ◌++◌, map, Option, Some, None, Result, Ok, Err, slice_get, nat_lt, nat_le, refl}
use Rattle.std.specs.List.{list_any, sum_by}
use Rattle.std.specs.FinMap as fin
use Rattle.std.specs.Borrow.{Bor}
use Rattle.std.specs.Coded.{Coded, code_by, coded×, coded_ℕ, coded_list, coded_option}
use Rattle.hurd_creds.specs.declared.name.Name.{Name}
use Rattle.hurd_creds.specs.declared.errno.Errno.{Errno}
use Rattle.hurd_creds.specs.declared.errno.Errno.TheVariants.{EBADF, ESRCH, EOVERFLOW}
use Rattle.hurd_creds.specs.Access.{IdSets, coded_ids}
use Rattle.hurd_creds.specs.Bits.{asks, READ, WRITE}
use Rattle.hurd_creds.specs.Names.{name_of, coded_name, same_name}
use Rattle.hurd_creds.specs.NameMaps.{NameMap}
use Rattle.hurd_creds.specs.Weights.{one_if, weigh_list}
use Rattle.hurd_ports.specs.declared.table.Ends.{Ends}
use Rattle.hurd_ports.specs.declared.table.Opened.{Opened}
use Rattle.hurd_ports.specs.declared.parents.Parent.{Parent}
use Rattle.hurd_ports.specs.declared.table.IoRight.{IoRight}
use Rattle.hurd_ports.specs.declared.table.Right.{Right}
use Rattle.hurd_ports.specs.declared.table.Right.TheVariants.{Io, Control, Start}
use Rattle.hurd_ports.specs.declared.table.PendingStart.{PendingStart}
use Rattle.hurd_ports.specs.declared.table.Port.{Port}
use Rattle.hurd_ports.specs.contracts.table.Port as port
use Rattle.hurd_ports.specs.contracts.table.Right as right
use Rattle.hurd_ports.specs.contracts.table.PendingStart as start
use Rattle.hurd_ports.specs.contracts.table.Opened as opened

-- a task: its ids, its ports in order of their numbers, the next number, the rights that it was sent, in their order, how
-- many things it has made, and what it is to start
pub record Task : Type 0 where
  pub ids : IdSets
  pub ports : List Port
  pub next : ℕ
  pub inbox : List Right
  pub made : ℕ
  pub pending : Option PendingStart

abbrev pub OpenMap : Type 0
OpenMap = NameMap Opened

-- what is open, and the tasks in their order
pub record PortState : Type 0 where
  pub opens : OpenMap
  pub tasks : List Task

-- beside that, the task for whose next port there is room in memory
pub record Tables : Type 0 where
  pub state : PortState
  pub ready : Option ℕ

abbrev pub coded_task : Coded Task
coded_task =
    code_by (IdSets × (List Port × (ℕ × (List Right × (ℕ × Option PendingStart)))))
    (coded× coded_ids (coded× (coded_list port.the_row.coded) (coded× coded_ℕ (coded× (coded_list right.the_row.coded) (coded× coded_ℕ (coded_option start.the_row.coded))))))
    (λ x. (x.ids, (x.ports, (x.next, (x.inbox, (x.made, x.pending))))))
    (λ p. record { ids = p.0; ports = p.1.0; next = p.1.1.0; inbox = p.1.1.1.0; made = p.1.1.1.1.0; pending = p.1.1.1.1.1 }) (λ _. refl)

abbrev pub coded_tables : Coded Tables
coded_tables =
    code_by (OpenMap × (List Task × Option ℕ)) (coded× (fin.code coded_name opened.the_row.coded) (coded× (coded_list coded_task) (coded_option coded_ℕ)))
    (λ h. (h.state.opens, (h.state.tasks, h.ready))) (λ p. record { state = record { opens = p.0; tasks = p.1.0 }; ready = p.1.1 }) (λ _. refl)

-- the right that a pending start is
abbrev pub start_of : Option PendingStart → List Right
start_of None = []
start_of (Some s) = Start s.node ∷ []

-- all rights of a task: its pending start, those of its ports, and those that it was sent
abbrev pub rights_of : Task → List Right
rights_of x = start_of x.pending ++ (map (λ p. p.right) x.ports ++ x.inbox)

-- the right that was sent first, if there is one
abbrev pub first_sent : List Right → Option Right
first_sent [] = None
first_sent (r ∷ rs) = Some r

-- the right under a number
abbrev pub right_in : ℕ → List Port → Option Right
right_in p [] = None
right_in p (x ∷ xs) = if p == x.number then Some x.right else right_in p xs

abbrev pub or_refuse : {A : Type 0} → Errno → Option A → Result A Errno
or_refuse e None = Err e
or_refuse e (Some a) = Ok a

-- a task: ESRCH where it isn't there
abbrev pub task_of : PortState → ℕ → Result Task Errno
task_of h t = or_refuse ESRCH (slice_get h.tasks t)

abbrev pub right_at : ℕ → Option Task → Result Right Errno
right_at p None = Err ESRCH
right_at p (Some x) = or_refuse EBADF (right_in p x.ports)

-- the right of a task under a number: ESRCH no such task, EBADF no such port
abbrev pub right_of : PortState → ℕ → ℕ → Result Right Errno
right_of h t p = right_at p (slice_get h.tasks t)

abbrev pub io_of : Right → Option IoRight
io_of (Io r) = Some r
io_of (Control s) = None
io_of (Start n) = None

abbrev pub io_right_in : Result Right Errno → Result IoRight Errno
io_right_in (Err e) = Err e
io_right_in (Ok r) = or_refuse EBADF (io_of r)

-- the right to use a node of a task under a number: EBADF also where the port controls a server
abbrev pub io_right_of : PortState → ℕ → ℕ → Result IoRight Errno
io_right_of h t p = io_right_in (right_of h t p)

-- what a task that may not be there is to start
abbrev pub pending_at : Option Task → Option PendingStart
pending_at None = None
pending_at (Some x) = x.pending

-- what a task is to start, if it is there and is to start anything
abbrev pub pending_of : PortState → ℕ → Option PendingStart
pending_of h t = pending_at (slice_get h.tasks t)

abbrev pub ids_at : Option Task → Result IdSets Errno
ids_at None = Err ESRCH
ids_at (Some x) = Ok x.ids

-- the next name of a task
abbrev pub fresh : ℕ → Task → Name
fresh t x = name_of t x.made

abbrev pub u64_greatest : ℕ
u64_greatest = 18446744073709551615

-- so many more things can be named
abbrev pub can_name : ℕ → Task → Bool
can_name names x = nat_le (x.made + names) u64_greatest

-- another port can be numbered, and so many more things named
abbrev pub has_room : ℕ → Task → Bool
has_room names x = nat_lt x.next u64_greatest && can_name names x

abbrev pub naming_at : ℕ → Option Task → Result (Unit {0}) Errno
naming_at names None = Err ESRCH
naming_at names (Some x) = if can_name names x then Ok tt else Err EOVERFLOW

-- whether so many things can be named: ESRCH no such task, EOVERFLOW
abbrev pub naming_of : PortState → ℕ → ℕ → Result (Unit {0}) Errno
naming_of h t names = naming_at names (slice_get h.tasks t)

abbrev pub room_at : ℕ → Option Task → Result (Unit {0}) Errno
room_at names None = Err ESRCH
room_at names (Some x) = if has_room names x then Ok tt else Err EOVERFLOW

-- whether a port can be numbered and so many things named: ESRCH no such task, EOVERFLOW
abbrev pub room_of : PortState → ℕ → ℕ → Result (Unit {0}) Errno
room_of h t names = room_at names (slice_get h.tasks t)

-- the open that a right has
abbrev pub open_of : Right → Option Name
open_of (Io r) = Some r.open_name
open_of (Control s) = None
open_of (Start n) = None

abbrev pub names_open : Name → Right → Bool
names_open o (Io r) = same_name r.open_name o
names_open o (Control s) = false
names_open o (Start n) = false

-- some right names the open
unfoldable pub is_held : List Task → Name → Bool
is_held ts o = list_any (λ (x : Task). list_any (names_open o) (rights_of x)) ts

-- both nodes of each way
abbrev pub ways_of : List Parent → List Name
ways_of [] = []
ways_of (p ∷ ps) = p.at ∷ (p.parent ∷ ways_of ps)

-- the nodes that a right names: that which it is for, and both of each way that it came in by; that on which a translator is to start
abbrev pub nodes_of : Right → List Name
nodes_of (Io r) = r.node ∷ ways_of r.parents
nodes_of (Control s) = []
nodes_of (Start n) = n ∷ []

-- whether a right is to use the node
abbrev pub uses_node : Name → Right → Bool
uses_node n (Io r) = same_name n r.node
uses_node n (Control s) = false
uses_node n (Start m) = false

abbrev pub names_node : Name → Right → Bool
names_node n r = list_any (λ m. same_name n m) (nodes_of r)

-- some right names the node
unfoldable pub is_named : List Task → Name → Bool
is_named ts n = list_any (λ (x : Task). list_any (names_node n) (rights_of x)) ts

-- whether a right is to control a server
abbrev pub names_server : Name → Right → Bool
names_server s (Io r) = false
names_server s (Control q) = same_name s q
names_server s (Start n) = false

-- some right controls the server
unfoldable pub is_controlled : List Task → Name → Bool
is_controlled ts s = list_any (λ (x : Task). list_any (names_server s) (rights_of x)) ts

-- what all rights of all tasks weigh
abbrev pub weigh_rights : (Right → ℕ) → List Task → ℕ
weigh_rights W [] = 0
weigh_rights W (t ∷ ts) = weigh_list W (rights_of t) + weigh_rights W ts

-- how many rights of all tasks pass a test
abbrev pub count_rights : (Right → Bool) → List Task → ℕ
count_rights p ts = weigh_rights (λ r. one_if (p r)) ts

-- whether an open is of a node, and for this
abbrev pub is_end : Name → ℕ → Opened → Bool
is_end n mode z = same_name n z.node && asks z.modes mode

-- how many opens of a node are for this
unfoldable pub ends : OpenMap → Name → ℕ → ℕ
ends m n mode = sum_by (λ z. one_if (is_end n mode z)) (fin.values m)

-- how many are to read it, and how many are to write it
abbrev pub ends_of : OpenMap → Name → Ends
ends_of m n = record { readers = ends m n READ; writers = ends m n WRITE }

-- nothing is to be taken out: each open is held
abbrev pub IsSettled : PortState → Type 0
IsSettled h = (o : Name) (x : Opened) → fin.get h.opens o ≡ Some x → is_held h.tasks o ≡ true

-- what is lent
abbrev pub lent : {A E : Type 0} → Result (Bor A) E → Result A E
lent (Ok b) = Ok b.now
lent (Err e) = Err e
