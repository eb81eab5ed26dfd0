-- The core that the code holds, the world that it stands for, and what its methods owe.
use Rattle.std.specs.Prelude.{◌≡◌, ◌⊎◌, ℕ, ◌+◌, Bool, true, false, List, [], ◌∷◌, ◌++◌, Option, Some, None, Result, Ok, Err, IsOk, length, nat_lt, refl}
use Rattle.std.specs.Coded.{Coded, code_by, coded×}
use Rattle.hurd_creds.specs.declared.name.Name.{Name}
use Rattle.hurd_creds.specs.declared.mode.Mode.{Mode}
use Rattle.hurd_creds.specs.declared.open_flags.OpenFlags.{OpenFlags}
use Rattle.hurd_creds.specs.declared.attrs.Kind.{Kind}
use Rattle.hurd_creds.specs.declared.attrs.Kind.TheVariants.{File, Dir}
use Rattle.hurd_creds.specs.declared.errno.Errno.{Errno}
use Rattle.hurd_creds.specs.declared.errno.Errno.TheVariants.{EDIED, ENOMEM, EOVERFLOW, ESRCH, EWOULDBLOCK}
use Rattle.hurd_creds.specs.Access.{IdSets}
use Rattle.hurd_trans_iface.specs.Nodes.{Edit, Node, new_file, new_dir}
use Rattle.hurd_trans_iface.specs.Answers.{entering, named_by}
use Rattle.hurd_trans_iface.specs.declared.new_node.NewNode.{NewNode}
use Rattle.hurd_trans_iface.specs.Meaning.{Meaning}
use Rattle.hurd_nodes.specs.Held.{Held, coded_held}
use Rattle.hurd_nodes.specs.declared.seat.Place.{Place}
use Rattle.hurd_nodes.specs.Shown.{begun_info, begun_root, shown}
use Rattle.hurd_ports.specs.Tables.{PortState, Task, Tables, coded_tables, fresh, can_name, has_room, first_sent, right_of}
use Rattle.hurd_ports.specs.declared.parents.Parent.{Parent}
use Rattle.hurd_ports.specs.declared.table.Right.{Right}
use Rattle.hurd_ports.specs.Steps.{named, edit_task, with_pending}
use Rattle.hurd_machine.specs.World.{World, world_from, ports_of, task_at, home_at, makes_at}
use Rattle.hurd_machine.specs.Change.{Attach, Change, DropServer, EditTask, MakeNode, Settle, apply_all, changes_of, opening}
use Rattle.hurd_machine.specs.Plan.{on, given, first}
use Rattle.hurd_core.specs.declared.to_make.ServerToMake.{ServerToMake}

-- servers with their nodes, and tables of ports
pub record Whole (S : Type 0) : Type 0 where
  pub nodes : Held S
  pub ports : Tables

abbrev pub coded_whole : {S : Type 0} → Coded S → Coded (Whole S)
coded_whole {S} c = code_by (Held S × Tables) (coded× (coded_held c) coded_tables) (λ h. (h.nodes, h.ports)) (λ p. record { nodes = p.0; ports = p.1 }) (λ _. refl)

-- the world that these stand for, where each server means this
abbrev pub world_of : {S : Type 0} → (S → Meaning) → Whole S → World
world_of f c = world_from (shown f c.nodes) c.ports.state

-- a method that asks, and then makes changes: it answers and leaves what follows from what it asked; or it is refused, or
-- finds no memory where it isn't refused, and changes nothing
abbrev pub Does : {A T : Type 0} → World → Result A Errno → (A → List Change) → (A → T) → Result T Errno → World → Type 0
Does {A} w asks changes answer (Ok x) y = (a : A) × (asks ≡ Ok a) × (x ≡ answer a) × (y ≡ apply_all (changes a) w)
Does w asks changes answer (Err e) y = (y ≡ w) × ((asks ≡ Err e) ⊎ ((e ≡ ENOMEM) × IsOk asks))

-- a task that can number another port, and name so many things: ESRCH, EOVERFLOW
abbrev pub room_asks : World → ℕ → ℕ → Result Task Errno
room_asks w t names = on ESRCH (task_at w t) (λ x. given EOVERFLOW (has_room names x) (Ok x))

-- a task that can name so many things more: ESRCH, EOVERFLOW
abbrev pub naming_asks : World → ℕ → ℕ → Result Task Errno
naming_asks w t names = on ESRCH (task_at w t) (λ x. given EOVERFLOW (can_name names x) (Ok x))

-- the right that a port sends, to a task that is there: EBADF, ESRCH
abbrev pub send_asks : World → ℕ → ℕ → ℕ → Result Right Errno
send_asks w t p q = first (right_of (ports_of w) t p) (λ r. given ESRCH (nat_lt q (length w.tasks)) (Ok r))

-- a task that was sent a right, and can number another port: EWOULDBLOCK, EOVERFLOW
abbrev pub receive_asks : World → ℕ → Result Task Errno
receive_asks w t =
    on ESRCH (task_at w t) (λ x.
    on EWOULDBLOCK (first_sent x.inbox) (λ r.
    given EOVERFLOW (has_room 0 x) (Ok x)))

-- a node that is to be made: in which directory, under which name, if an entry is to name it, and whose it is
pub record NewNodeAt : Type 0 where
  pub dir : Name
  pub entry : Option (List ℕ)
  pub owner : ℕ
  pub group : ℕ
  pub mode : Mode

-- the node as its server is asked for it, under this name
abbrev pub asked_node : Kind → NewNodeAt → Name → NewNode
asked_node kind f n = record { name = n; kind = kind; owner = f.owner; group = f.group; mode = f.mode }

-- task t, which stands as x, makes a node of this server, with its entry
abbrev pub making : ℕ → Task → Name → NewNodeAt → Node → List Change
making t x s f node = MakeNode (fresh t x) s (named_by f.entry node) ∷ changes_of (entering f.dir f.entry (fresh t x))

-- the task that makes a file and opens it, and the server of its directory, which lets it be made
abbrev pub making_asks : World → ℕ → NewNodeAt → Result (Task × Name) Errno
making_asks w t f =
    first (room_asks w t 2) (λ x.
    first (makes_at w f.dir f.entry File) (λ u.
    on EDIED (home_at w f.dir) (λ s. Ok (x, s))))

-- the file made, and opened
abbrev pub making_open : ℕ → NewNodeAt → IdSets → List Parent → OpenFlags → Task × Name → List Change
making_open t f ids parents modes a = making t a.0 a.1 f (new_file f.owner f.group f.mode) ++ opening t (named 1 a.0) (fresh t a.0) ids parents modes

-- the task that makes a directory, which needs a name and no port, and the server of the directory above it, which lets it be made
abbrev pub making_dir_asks : World → ℕ → NewNodeAt → Result (Task × Name) Errno
making_dir_asks w t f =
    first (makes_at w f.dir f.entry Dir) (λ u.
    first (naming_asks w t 1) (λ x.
    on EDIED (home_at w f.dir) (λ s. Ok (x, s))))

-- the directory made, with its parent
abbrev pub making_dir : ℕ → NewNodeAt → Task × Name → List Change
making_dir t f a = making t a.0 a.1 f (new_dir f.owner f.group f.mode (Some f.dir))

-- what a server does to nodes, and then what nothing keeps goes
abbrev pub settled_edits : List Edit → List Change
settled_edits es = changes_of es ++ Settle ∷ []

-- whether something is answered, whatever it is
abbrev pub asked_only : {A : Type 0} → Result A Errno → Result (Unit {0}) Errno
asked_only (Ok a) = Ok tt
asked_only (Err e) = Err e

-- where a server is to stand under a name: its root has the name after it
abbrev pub placed : ServerToMake → Name → Place
placed p n = record { name = n; seat = p.seat; root = record n { count = n.count + 1 }; owner = p.owner; group = p.group; mode = p.mode }

-- the server that leaves for another, if one does
abbrev pub leaving : Option Name → List Change
leaving None = []
leaving (Some q) = DropServer q ∷ []

-- a task that was to start a server is to start nothing any more
abbrev pub starting_over : ℕ → Bool → List Change
starting_over t true = EditTask t (with_pending None) ∷ []
starting_over t false = []

abbrev pub started_over : ℕ → Bool → PortState → PortState
started_over t true h = record h { tasks = edit_task t (with_pending None) h.tasks }
started_over t false h = h

-- task t, which stands as x, seats a server that means m, with these ids and targets: it gives the server a name, and then its root; if it was to start the server, it is to start
-- nothing any more; what nothing keeps then goes
abbrev pub attaching : ℕ → ServerToMake → IdSets → List Name → Meaning → Task → List Change
attaching t p ids targets m x =
    leaving p.instead ++ Attach (fresh t x) p.seat (begun_info m (fresh t (named 1 x)) ids targets) (begun_root m p.owner p.group p.mode) ∷ (starting_over t p.starts ++ Settle ∷ [])

-- the answer, where what comes back with a refusal is left out
abbrev pub without_box : {S T : Type 0} → Result T (Errno × S) → Result T Errno
without_box (Ok x) = Ok x
without_box (Err e) = Err e.0
