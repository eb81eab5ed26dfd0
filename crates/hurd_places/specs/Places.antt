-- Where something is that a set of tasks sees, in words.
-- A node has a path: the way by which it was found, as `/home/bob`. What no entry and no active server leads to has a word for its step, as `/tmp(parent)`.
use Rattle.std.specs.Prelude.{ℕ, zero, suc, ◌+◌, ◌==◌, ◌&&◌, Bool, true, false, List, [], ◌∷◌, ◌++◌, length, Option, Some, None, if◌then◌else◌, is_some, codes, nat_lt, option_and_then}
use Rattle.std.specs.Option.{option_map, option_or}
use Rattle.hurd_creds.specs.declared.name.Name.{Name}
use Rattle.hurd_creds.specs.declared.name.TaskId.{TaskId}
use Rattle.hurd_creds.specs.Names.{same_name}
use Rattle.hurd_words.specs.Printing.{spaced, text_if}
use Rattle.hurd_ports.specs.Tables.{Task}
use Rattle.hurd_ports.specs.declared.table.IoRight.{IoRight}
use Rattle.hurd_ports.specs.declared.table.Port.{Port}
use Rattle.hurd_ports.specs.declared.table.Right.{Right}
use Rattle.hurd_ports.specs.declared.table.Right.TheVariants.{Io, Control, Start}
use Rattle.hurd_words.specs.Spelling.{spelled_name}
use Rattle.hurd_sight.specs.Found.{found_from, why_of}
use Rattle.hurd_sight.specs.declared.found.Why.{Why}
use Rattle.hurd_sight.specs.declared.found.Why.TheVariants as why
use Rattle.hurd_views.specs.Views.{row_at}
use Rattle.hurd_views.specs.declared.rows.BodyRow.{BodyRow}
use Rattle.hurd_views.specs.declared.rows.BodyRow.TheVariants as body
use Rattle.hurd_views.specs.declared.rows.EntryRow.{EntryRow}
use Rattle.hurd_views.specs.declared.rows.NodeRow.{NodeRow}
use Rattle.hurd_views.specs.declared.rows.Row.{Row}
use Rattle.hurd_views.specs.declared.rows.ServerRow.{ServerRow}
use Rattle.hurd_views.specs.declared.view.View.{View}
use Rattle.hurd_places.specs.declared.labels.Holder.{Holder}
use Rattle.hurd_places.specs.declared.labels.Holder.TheVariants as holder
use Rattle.hurd_places.specs.declared.labels.Label.{Label}
use Rattle.hurd_places.specs.declared.labels.Wanted.{Wanted}
use Rattle.hurd_places.specs.declared.labels.Wanted.TheVariants as wanted
use Rattle.hurd_places.specs.declared.servers.Bond.{Bond}
use Rattle.hurd_places.specs.declared.servers.Bond.TheVariants as bond

-- RIGHTS: each has a label, as `port 3`

-- a right is wanted by the node that it is for, or by its open
abbrev pub wants : Wanted → IoRight → Bool
wants (wanted.Node n) r = same_name n r.node
wants (wanted.Open o) r = same_name o r.open_name

-- only a right to use a node is ever wanted
abbrev pub is_wanted : Wanted → Right → Bool
is_wanted w (Io r) = wants w r
is_wanted w (Control s) = false
is_wanted w (Start n) = false

-- the number of the first port whose right is wanted
abbrev pub port_wanted : Wanted → List Port → Option ℕ
port_wanted w [] = None
port_wanted w (p ∷ ps) = if is_wanted w p.right then Some p.number else port_wanted w ps

-- the number of the first right in an inbox that is wanted, where the first right has number k
abbrev pub sent_wanted : Wanted → ℕ → List Right → Option ℕ
sent_wanted w k [] = None
sent_wanted w k (r ∷ rs) = if is_wanted w r then Some k else sent_wanted w (k + 1) rs

-- a number of a task's port, or of its inbox, as a label
abbrev pub label_in : TaskId → Holder → ℕ → Label
label_in t h k = record { task = t; holder = h; number = k }

-- the label of the first right of a task that is wanted: its ports first, then its inbox, which counts from 1
abbrev pub label_of_task : Wanted → TaskId → Option Task → Option Label
label_of_task w t None = None
label_of_task w t (Some x) =
    option_or (option_map (label_in t holder.Port) (port_wanted w x.ports)) (option_map (label_in t holder.Inbox) (sent_wanted w 1 x.inbox))

-- the label of the first right of some tasks that is wanted
abbrev pub label_of_tasks : Wanted → List TaskId → List (Option Task) → Option Label
label_of_tasks w [] xs = None
label_of_tasks w (t ∷ ts) [] = None
label_of_tasks w (t ∷ ts) (x ∷ xs) = option_or (label_of_task w t x) (label_of_tasks w ts xs)

-- the same in a view
abbrev pub label_of : View → Wanted → Option Label
label_of v w = label_of_tasks w v.sight.tasks.items v.seats.items

-- whether labels name their task: where there is more than one
abbrev pub names_tasks : View → Bool
names_tasks v = nat_lt 1 (length v.sight.tasks.items)

-- what holds a right, in a word
abbrev pub holder_word : Holder → List ℕ
holder_word holder.Port = codes "port"
holder_word holder.Inbox = codes "inbox"

-- a label: `port 3` or `inbox 1`, and `task 2 port 3` where it names its task
abbrev pub label_text : Bool → Label → List ℕ
label_text many l = text_if many (codes "task" ++ (spaced l.task.0 ++ codes " ")) ++ (holder_word l.holder ++ spaced l.number)

-- a label, or else a word
abbrev pub label_or : Bool → List ℕ → Option Label → List ℕ
label_or many word None = word
label_or many word (Some l) = label_text many l

-- SERVERS OF A NODE, by its row

-- the server of which a node is, or the one that is active on it
abbrev pub bound_by : Bond → Option NodeRow → Option Name
bound_by b None = None
bound_by bond.Home (Some r) = r.home
bound_by bond.Active (Some r) = r.active

-- the same by its name
abbrev pub bound_to : View → Bond → Name → Option Name
bound_to v b n = bound_by b (row_at v.rows n).attributes

-- a node is covered where a server is active on it
abbrev pub is_covered : View → Name → Bool
is_covered v d = is_some (bound_to v bond.Active d)

-- the targets of a server, where they are seen
abbrev pub targets_in : Option (Option ServerRow) → List Name
targets_in (Some (Some s)) = s.targets
targets_in _ = []

abbrev pub targets_of : View → Option Name → List Name
targets_of v None = []
targets_of v (Some s) = targets_in (row_at v.rows s).server

-- the number of a node in a list, where the first has number k
abbrev pub number_in : Name → ℕ → List Name → Option ℕ
number_in n k [] = None
number_in n k (m ∷ ms) = if same_name n m then Some k else number_in n (k + 1) ms

-- a number, or 0 where there is none
abbrev pub or_zero : Option ℕ → ℕ
or_zero None = 0
or_zero (Some k) = k

-- the number of a node among some targets, and then among others that count on
abbrev pub target_number : Name → List Name → List Name → ℕ
target_number n ms ns = or_zero (option_or (number_in n 1 ms) (number_in n (length ms + 1) ns))

-- the number of a target of a node: those of its own server come first, then those of the one that is active on it
abbrev pub target_at : View → Name → Name → ℕ
target_at v m n = target_number n (targets_of v (bound_to v bond.Home m)) (targets_of v (bound_to v bond.Active m))

-- STEPS OF A PATH

-- the nodes by which a node was found, itself first, at most so many
abbrev pub way_to : ℕ → List (Name × Why) → Option Name → List Name
way_to zero es at = []
way_to (suc k) es None = []
way_to (suc k) es (Some n) = n ∷ way_to k es (option_and_then found_from (why_of n es))

-- the name of the first entry that has a node; none where there is no such entry
abbrev pub entry_name : List EntryRow → Name → List ℕ
entry_name [] n = []
entry_name (e ∷ es) n = if same_name e.node n then e.name else entry_name es n

-- the same of a body that may be seen
abbrev pub name_in : Option (Option BodyRow) → Name → List ℕ
name_in (Some (Some (body.Entries es))) n = entry_name es n
name_in _ n = []

-- a name as it is in a path
abbrev pub name_text : List ℕ → List ℕ
name_text [] = codes "(unseen)"
name_text (b ∷ bs) = spelled_name (b ∷ bs)

-- ways to be found that are counted together
abbrev pub is_alike : Why → Why → Bool
is_alike why.Way why.Way = true
is_alike why.Controlled why.Controlled = true
is_alike why.Pending why.Pending = true
is_alike _ _ = false

-- how many of the found nodes, up to this one, were found in such a way
abbrev pub count_to : Why → Name → List (Name × Why) → ℕ
count_to y n [] = 0
count_to y n (e ∷ es) = (if is_alike y e.1 then 1 else 0) + (if same_name n e.0 then 0 else count_to y n es)

-- a word and a number in brackets, as `(target 1)`
abbrev pub numbered : List ℕ → ℕ → List ℕ
numbered word k = 40 ∷ (word ++ (spaced k ++ 41 ∷ []))

-- the path of the root is a slash, where nothing else says it
abbrev pub or_root : List ℕ → List ℕ
or_root [] = 47 ∷ []
or_root (b ∷ bs) = b ∷ bs

-- what is underlying an active server: `(underlying)`, and `(underlying 2)` where the node itself is the root of an active server on such a root
abbrev pub underlying : ℕ → List ℕ
underlying k = if k == 0 then codes "(underlying)" else numbered (codes "underlying") k

-- the path of a node, from its plain path: a covered node has a mark, since its plain path is that of the active server's root
abbrev pub covered_path : Bool → List ℕ → ℕ → List ℕ
covered_path false path k = path
covered_path true path k = or_root path ++ underlying k

-- how many active servers, each on the root of the one before, lead to a node
abbrev pub level_by : Option Why → ℕ → ℕ
level_by (Some (why.Active m)) k = suc k
level_by _ k = 0

-- the path of a node by why it was found, from the path and the level of the node from which it was found
abbrev pub step_by : View → Name → List ℕ → ℕ → Option Why → List ℕ
step_by v n path k None = codes "(unseen)"
step_by v n path k (Some why.Root) = []
step_by v n path k (Some why.Held) = 40 ∷ (label_or (names_tasks v) (codes "held") (label_of v (wanted.Node n)) ++ 41 ∷ [])
step_by v n path k (Some why.Way) = numbered (codes "way") (count_to why.Way n v.sight.found)
step_by v n path k (Some why.Controlled) = numbered (codes "controlled") (count_to why.Controlled n v.sight.found)
step_by v n path k (Some why.Pending) = numbered (codes "pending") (count_to why.Pending n v.sight.found)
step_by v n path k (Some (why.Child d)) = covered_path (is_covered v d) path k ++ (47 ∷ name_text (name_in (row_at v.rows d).body n))
step_by v n path k (Some (why.Active m)) = path
step_by v n path k (Some (why.Parent d)) = covered_path (is_covered v d) path k ++ codes "(parent)"
step_by v n path k (Some (why.ServerRoot m)) = covered_path (is_covered v m) path k ++ codes "(root)"
step_by v n path k (Some (why.Target m)) = covered_path (is_covered v m) path k ++ numbered (codes "target") (target_at v m n)

-- the level of a node at the end of a way, which comes first
abbrev pub level_along : View → List Name → ℕ
level_along v [] = 0
level_along v (n ∷ ns) = level_by (why_of n v.sight.found) (level_along v ns)

-- and its own path
abbrev pub path_along : View → List Name → List ℕ
path_along v [] = []
path_along v (n ∷ ns) = step_by v n (path_along v ns) (level_along v ns) (why_of n v.sight.found)

-- WHERE SOMETHING IS

-- the way by which a node was found
abbrev pub way_of : View → Name → List Name
way_of v n = way_to (length v.sight.found) v.sight.found (Some n)

-- the path of a node
abbrev pub node_path : View → Name → List ℕ
node_path v n = or_root (covered_path (is_covered v n) (path_along v (way_of v n)) (level_along v (way_of v n)))

-- a port that is on a node, and none of the first three, is told beside it, as ` (port 3)`
abbrev pub beside_port : Bool → TaskId → Name → Port → List ℕ
beside_port many t n p = text_if (nat_lt 2 p.number && is_wanted (wanted.Node n) p.right) (codes " (" ++ (label_text many (label_in t holder.Port p.number) ++ codes ")"))

abbrev pub beside_ports : Bool → TaskId → Name → List Port → List ℕ
beside_ports many t n [] = []
beside_ports many t n (p ∷ ps) = beside_port many t n p ++ beside_ports many t n ps

-- the same of a task that may be there
abbrev pub beside_task : Bool → TaskId → Name → Option Task → List ℕ
beside_task many t n None = []
beside_task many t n (Some x) = beside_ports many t n x.ports

-- and of some tasks
abbrev pub beside_tasks : Bool → Name → List TaskId → List (Option Task) → List ℕ
beside_tasks many n [] xs = []
beside_tasks many n (t ∷ ts) [] = []
beside_tasks many n (t ∷ ts) (x ∷ xs) = beside_task many t n x ++ beside_tasks many n ts xs

-- a node that was found by a right has that in its path
abbrev pub is_held : Option Why → Bool
is_held (Some why.Held) = true
is_held _ = false

-- the ports that are told beside a node
abbrev pub beside : View → Name → List ℕ
beside v n = if is_held (why_of n v.sight.found) then [] else beside_tasks (names_tasks v) n v.sight.tasks.items v.seats.items

-- where a node is: its path, and the ports on it, as `/tmp/notes (port 3)`
abbrev pub node_place : View → Name → List ℕ
node_place v n = node_path v n ++ beside v n

-- where an open is: at the first right that has it
abbrev pub open_place : View → Name → List ℕ
open_place v o = label_or (names_tasks v) (codes "(open)") (label_of v (wanted.Open o))

-- whether a server is the one that may be there
abbrev pub is_server : Name → Option Name → Bool
is_server s None = false
is_server s (Some q) = same_name s q

-- the first node of a server, or the first on which it is active
abbrev pub first_bound : View → Bond → Name → List (Name × Why) → Option Name
first_bound v b s [] = None
first_bound v b s (e ∷ es) = if is_server s (bound_to v b e.0) then Some e.0 else first_bound v b s es

-- where a server is: at its first node, or else at the first on which it is active
abbrev pub server_node : View → Name → Option Name
server_node v s = option_or (first_bound v bond.Home s v.sight.found) (first_bound v bond.Active s v.sight.found)

abbrev pub server_at : View → Option Name → List ℕ
server_at v None = codes "(server)"
server_at v (Some n) = node_path v n ++ codes " (server)"

abbrev pub server_path : View → Name → List ℕ
server_path v s = server_at v (server_node v s)

-- where that is of which a row tells: a node, an open, or a server
abbrev pub place_by : View → Name → Row → List ℕ
place_by v n r =
    if is_some r.attributes then node_place v n
    else if is_some r.opened then open_place v n
    else server_path v n

abbrev pub place_of : View → Name → List ℕ
place_of v n = place_by v n (row_at v.rows n)
