-- Tasks, and the ports that they have beside those that they began with.
use Rattle.std.specs.Prelude.{ℕ, ◌==◌, ◌&&◌, ◌++◌, Bool, List, [], ◌∷◌, Option, Some, None, if◌then◌else◌, codes, decimal, nat_lt}
use Rattle.std.specs.FinSet as set
use Rattle.hurd_creds.specs.Access.{IdSets, least_uid}
use Rattle.hurd_creds.specs.Bits as bit
use Rattle.hurd_creds.specs.declared.name.Name.{Name}
use Rattle.hurd_creds.specs.declared.name.TaskId.{TaskId}
use Rattle.hurd_creds.specs.declared.open_flags.OpenFlags.{OpenFlags}
use Rattle.hurd_words.specs.Printing.{spaced, text_if}
use Rattle.hurd_ports.specs.Tables.{Task}
use Rattle.hurd_ports.specs.declared.table.Opened.{Opened}
use Rattle.hurd_ports.specs.declared.table.Port.{Port}
use Rattle.hurd_ports.specs.declared.table.Right.{Right}
use Rattle.hurd_ports.specs.declared.table.Right.TheVariants.{Io, Control, Start}
use Rattle.hurd_views.specs.Views.{row_at}
use Rattle.hurd_views.specs.declared.rows.OpenRow.{OpenRow}
use Rattle.hurd_views.specs.declared.view.View.{View}
use Rattle.hurd_pictures.specs.Found.{root_of}
use Rattle.hurd_pictures.specs.Labels.{node_name, runner_text, task_text}
use Rattle.hurd_pictures.specs.Nodes.{unseen_text}
use Rattle.hurd_pictures.specs.declared.names.Titles.{Titles}

-- a task in the picture's text, as `t2`
abbrev pub task_name : TaskId → List ℕ
task_name t = 116 ∷ decimal t.0

-- a task with its label
unfoldable pub task_node : Titles → TaskId → List ℕ
task_node ts t = codes "  " ++ (task_name t ++ (codes " [shape=ellipse, fillcolor=\"#d6e6ff\", label=<<b>" ++ (task_text ts t.0 ++ codes "</b>>];\n")))

-- whether two pairs of sets of ids are the same: each set has all of the other
abbrev pub same_ids : IdSets → IdSets → Bool
same_ids a b = (set.is_subset a.uids b.uids && set.is_subset b.uids a.uids) && (set.is_subset a.gids b.gids && set.is_subset b.gids a.gids)

-- as whom a right is used, where its ids are others than the task's
unfoldable pub ids_text : Titles → IdSets → IdSets → List ℕ
ids_text ts own ids = if same_ids own ids then [] else codes "<br/>as " ++ runner_text ts (least_uid ids)

-- what an open allows, each mode after a space
abbrev pub modes_text : OpenFlags → List ℕ
modes_text f =
    text_if (bit.asks f bit.READ) (codes " read") ++ (text_if (bit.asks f bit.WRITE) (codes " write")
    ++ (text_if (bit.asks f bit.EXEC) (codes " exec") ++ text_if (bit.asks f bit.APPEND) (codes " append")))

-- where an open stands, unless at its begin
abbrev pub cursor_text : ℕ → List ℕ
cursor_text c = if c == 0 then [] else codes " at" ++ spaced c

-- what an open allows, where it stands, and whether several rights share it
abbrev pub opened_text : Opened → ℕ → List ℕ
opened_text o holders = modes_text o.modes ++ (cursor_text o.cursor ++ text_if (nat_lt 1 holders) (codes " shared"))

-- the same of an open that may be there
abbrev pub opened_by : Option Opened → ℕ → List ℕ
opened_by None holders = []
opened_by (Some o) holders = opened_text o holders

abbrev pub open_text : Option OpenRow → List ℕ
open_text None = []
open_text (Some r) = opened_by r.opened r.holders

-- the same of an open by its name
unfoldable pub open_at : View → Name → List ℕ
open_at v o = open_text (row_at v.rows o).opened

-- the number of a port, or that the right was sent and is not taken yet
abbrev pub number_text : Option ℕ → List ℕ
number_text None = codes "sent"
number_text (Some n) = codes "port " ++ decimal n

-- what a right is on: a node, the root of the server that it controls, or the node on which a translator is to be started
abbrev pub node_of_right : View → Right → Option Name
node_of_right v (Io r) = Some r.node
node_of_right v (Control s) = root_of v s
node_of_right v (Start n) = Some n

-- what a right of a task with these ids allows
abbrev pub use_text : Titles → View → IdSets → Right → List ℕ
use_text ts v own (Io r) = open_at v r.open_name ++ (ids_text ts own r.ids ++ codes ">, color=\"#7a3fa0\", fontcolor=\"#7a3fa0\"];\n")
use_text ts v own (Control s) = codes " controls>, color=\"#a02020\", fontcolor=\"#a02020\"];\n"
use_text ts v own (Start n) = codes " is to start>];\n"

-- an arrow from a task to a node, up to its label
unfoldable pub task_arrow : TaskId → Name → List ℕ
task_arrow t n = codes "  " ++ (task_name t ++ (codes " -> " ++ (node_name n ++ codes " [label=<")))

-- a task, and an arrow from it to the node that a right is on, if there is one
abbrev pub right_on : Titles → View → TaskId → IdSets → Right → Option ℕ → Option Name → List ℕ
right_on ts v t own r number None = []
right_on ts v t own r number (Some n) =
    task_node ts t ++ (unseen_text v n ++ (task_arrow t n ++ (number_text number ++ use_text ts v own r)))

-- the same by the right
abbrev pub right_text : Titles → View → TaskId → IdSets → Right → Option ℕ → List ℕ
right_text ts v t own r number = right_on ts v t own r number (node_of_right v r)

-- the arrow of a port, unless it is one of the three with which a task begins
abbrev pub port_text : Titles → View → TaskId → IdSets → Port → List ℕ
port_text ts v t own p = if nat_lt p.number 3 then [] else right_text ts v t own p.right (Some p.number)

-- the arrows of ports
abbrev pub ports_text : Titles → View → TaskId → IdSets → List Port → List ℕ
ports_text ts v t own [] = []
ports_text ts v t own (p ∷ ps) = port_text ts v t own p ++ ports_text ts v t own ps

-- the arrows of rights that were sent
abbrev pub inbox_text : Titles → View → TaskId → IdSets → List Right → List ℕ
inbox_text ts v t own [] = []
inbox_text ts v t own (r ∷ rs) = right_text ts v t own r None ++ inbox_text ts v t own rs

-- the arrows of a task that may be there
abbrev pub seat_text : Titles → View → TaskId → Option Task → List ℕ
seat_text ts v t None = []
seat_text ts v t (Some x) = ports_text ts v t x.ids x.ports ++ inbox_text ts v t x.ids x.inbox

-- the arrows of these tasks, each with its row
abbrev pub seats_text : Titles → View → List TaskId → List (Option Task) → List ℕ
seats_text ts v [] xs = []
seats_text ts v (t ∷ us) [] = []
seats_text ts v (t ∷ us) (x ∷ xs) = seat_text ts v t x ++ seats_text ts v us xs
