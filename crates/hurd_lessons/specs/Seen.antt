-- All that a set of tasks sees, a line for each thing.
use Rattle.std.specs.Prelude.{ℕ, ◌==◌, Bool, true, false, List, [], ◌∷◌, ◌++◌, map, Option, Some, None, if◌then◌else◌, codes, decimal, bytes_eq, length, ◌||◌}
use Rattle.std.specs.List.{concat}
use Rattle.std.specs.Option.{option_map, option_or}
use Rattle.hurd_creds.specs.Access.{IdSets, least_uid}
use Rattle.hurd_creds.specs.Bits as bit
use Rattle.hurd_creds.specs.Stats.{stat_of}
use Rattle.hurd_creds.specs.declared.attrs.Attrs.{Attrs}
use Rattle.hurd_creds.specs.Names.{same_name}
use Rattle.hurd_creds.specs.declared.name.Name.{Name}
use Rattle.hurd_creds.specs.declared.name.TaskId.{TaskId}
use Rattle.hurd_creds.specs.declared.open_flags.OpenFlags.{OpenFlags}
use Rattle.hurd_words.specs.Printing.{spaced, stat_words, text_if}
use Rattle.hurd_words.specs.Spelling.{spelled, spelled_name, spelled_words}
use Rattle.hurd_ports.specs.Tables.{Task}
use Rattle.hurd_ports.specs.declared.table.Ends.{Ends}
use Rattle.hurd_ports.specs.declared.table.Opened.{Opened}
use Rattle.hurd_ports.specs.declared.table.PendingStart.{PendingStart}
use Rattle.hurd_ports.specs.declared.table.Port.{Port}
use Rattle.hurd_ports.specs.declared.table.Right.{Right}
use Rattle.hurd_ports.specs.declared.table.Right.TheVariants.{Io}
use Rattle.hurd_views.specs.Marks.{text_mark}
use Rattle.hurd_views.specs.Views.{row_at}
use Rattle.hurd_views.specs.declared.rows.BodyRow.{BodyRow}
use Rattle.hurd_views.specs.declared.rows.BodyRow.TheVariants as body
use Rattle.hurd_views.specs.declared.rows.EntryRow.{EntryRow}
use Rattle.hurd_views.specs.declared.rows.NodeRow.{NodeRow}
use Rattle.hurd_views.specs.declared.rows.OpenRow.{OpenRow}
use Rattle.hurd_views.specs.declared.rows.Row.{Row}
use Rattle.hurd_views.specs.declared.rows.ServerRow.{ServerRow}
use Rattle.hurd_views.specs.declared.rows.TextRow.{TextRow}
use Rattle.hurd_views.specs.declared.view.View.{View}
use Rattle.hurd_lessons.specs.Changes.{shows}
use Rattle.hurd_lessons.specs.declared.seen_parts.Reads.{Reads}
use Rattle.hurd_lessons.specs.declared.seen_parts.Reads.TheVariants as reads
use Rattle.hurd_places.specs.Places.{node_path, place_of, server_path}
use Rattle.hurd_lessons.specs.Values.{line_from, names_of, parted, spelled_or_none, with_part, words_or_none}

-- the words of a passive translator, where it has any
abbrev pub passive_text : List (List ℕ) → List ℕ
passive_text [] = []
passive_text (word ∷ words) = codes " passive" ++ spelled_words (word ∷ words)

-- attributes as `ls -d` prints them, then the words of a passive translator; or that the node is gone
abbrev pub attributes_text : Option Attrs → List (List ℕ) → List ℕ
attributes_text None words = codes "gone"
attributes_text (Some a) words = stat_words (stat_of a) ++ passive_text words

-- the same of a node
abbrev pub node_text : NodeRow → List ℕ
node_text r = attributes_text r.attrs r.words

-- a server by a word, if there is one
abbrev pub server_named : List ℕ → View → Option Name → Option (List ℕ)
server_named word v None = None
server_named word v (Some s) = Some (word ++ server_path v s)

-- the server of a node, and the one that is active on it, where the node is seen
abbrev pub home_part : View → Option NodeRow → Option (List ℕ)
home_part v None = None
home_part v (Some r) = server_named (codes "served by ") v r.home

abbrev pub active_part : View → Option NodeRow → Option (List ℕ)
active_part v None = None
active_part v (Some r) = server_named (codes "active ") v r.active

-- how many opens read a node, and how many write it
abbrev pub ends_text : Ends → List ℕ
ends_text e = codes "readers" ++ (spaced e.readers ++ (codes " writers" ++ spaced e.writers))

-- the same, where that is seen, and its server is told
abbrev pub ends_part : Option (Option Ends) → Option (List ℕ)
ends_part (Some (Some e)) = Some (ends_text e)
ends_part _ = None

-- the parent of a directory
abbrev pub parent_of : View → Option Attrs → Option (List ℕ)
parent_of v None = None
parent_of v (Some a) = option_map (λ n. codes "parent " ++ node_path v n) a.parent

abbrev pub parent_part : View → Option NodeRow → Option (List ℕ)
parent_part v None = None
parent_part v (Some r) = parent_of v r.attrs

-- the names of entries, each after a space
abbrev pub entry_names : List EntryRow → List ℕ
entry_names [] = []
entry_names (e ∷ es) = (32 ∷ spelled_name e.name) ++ entry_names es

-- entries by their names, or that there are none
abbrev pub listing_text : List EntryRow → List ℕ
listing_text [] = codes "no entries"
listing_text (e ∷ es) = codes "entries" ++ entry_names (e ∷ es)

-- bytes, or that there are none
abbrev pub bytes_text : List ℕ → List ℕ
bytes_text [] = codes "no bytes"
bytes_text (b ∷ bs) = codes "bytes " ++ spelled (b ∷ bs)

-- what is in a node
abbrev pub body_text : BodyRow → List ℕ
body_text (body.Entries es) = listing_text es
body_text (body.Bytes bs) = bytes_text bs

-- the program of a server, of which a node is the root
abbrev pub program_in : Name → Option (Option ServerRow) → List ℕ
program_in n (Some (Some s)) = if same_name n s.root then s.program else []
program_in n _ = []

-- the same of a node's server, if it has one
abbrev pub program_by : View → Name → Option Name → List ℕ
program_by v n None = []
program_by v n (Some s) = program_in n (row_at v.rows s).server

abbrev pub program_of : View → Name → Option NodeRow → List ℕ
program_of v n None = []
program_of v n (Some r) = program_by v n r.home

-- what a drip has given
abbrev pub given_text : BodyRow → List ℕ
given_text (body.Bytes bs) = codes "given " ++ spelled_or_none bs
given_text (body.Entries es) = listing_text es

-- what reading the root of a server of this program gives
abbrev pub reads_of : List ℕ → Reads
reads_of program =
    if bytes_eq program (codes "/hurd/hello") || bytes_eq program (codes "/hurd/symlink") then reads.Text
    else if bytes_eq program (codes "/hurd/union") then reads.Entries
    else if bytes_eq program (codes "/hurd/zero") then reads.Zeros
    else if bytes_eq program (codes "/hurd/drip") then reads.Left
    else reads.Kept

-- what is in a node, or what reading it gives where that is not what is kept
abbrev pub read_text : Reads → BodyRow → List ℕ
read_text reads.Text b = codes "its server's text"
read_text reads.Entries b = codes "its targets' entries"
read_text reads.Zeros b = codes "zeros"
read_text reads.Left b = given_text b
read_text reads.Kept b = body_text b

-- of a body that is not there nothing is said
abbrev pub body_part : List ℕ → Option (Option BodyRow) → Option (List ℕ)
body_part program (Some (Some b)) = Some (read_text (reads_of program) b)
body_part program _ = None

-- whether a directory has no entries
abbrev pub empty_text : Bool → List ℕ
empty_text true = codes "empty"
empty_text false = codes "not empty"

-- where the body is seen, it says that itself
abbrev pub empty_part : Option (Option BodyRow) → Option (Option Bool) → Option (List ℕ)
empty_part None (Some (Some e)) = Some (empty_text e)
empty_part _ _ = None

-- what an open allows, each mode after a space
abbrev pub modes_text : OpenFlags → List ℕ
modes_text f =
    text_if (bit.asks f bit.READ) (codes " read") ++ (text_if (bit.asks f bit.WRITE) (codes " write")
    ++ (text_if (bit.asks f bit.EXEC) (codes " exec") ++ text_if (bit.asks f bit.APPEND) (codes " append")))

-- the node of a right that has an open
abbrev pub opened_by : Name → Right → Option Name
opened_by o (Io r) = if same_name o r.open_name then Some r.node else None
opened_by o _ = None

-- of the first of these that has it
abbrev pub opened_by_ports : Name → List Port → Option Name
opened_by_ports o [] = None
opened_by_ports o (p ∷ ps) = option_or (opened_by o p.right) (opened_by_ports o ps)

abbrev pub opened_by_rights : Name → List Right → Option Name
opened_by_rights o [] = None
opened_by_rights o (r ∷ rs) = option_or (opened_by o r) (opened_by_rights o rs)

-- of a task: its ports come first, then the rights that it was sent
abbrev pub opened_by_task : Name → Option Task → Option Name
opened_by_task o None = None
opened_by_task o (Some x) = option_or (opened_by_ports o x.ports) (opened_by_rights o x.inbox)

abbrev pub opened_by_tasks : Name → List (Option Task) → Option Name
opened_by_tasks o [] = None
opened_by_tasks o (x ∷ xs) = option_or (opened_by_task o x) (opened_by_tasks o xs)

-- the node of an open
abbrev pub on_part : View → Name → Option OpenRow → Option (List ℕ)
on_part v o None = None
on_part v o (Some r) = option_map (λ n. codes "on " ++ node_path v n) (opened_by_tasks o v.seats.items)

-- an open's cursor and modes, or that it is gone
abbrev pub opened_text : Option Opened → List ℕ
opened_text None = codes "gone"
opened_text (Some o) = codes "cursor" ++ (spaced o.cursor ++ modes_text o.modes)

-- the same of an open that is seen
abbrev pub cursor_text : OpenRow → List ℕ
cursor_text r = opened_text r.opened

-- how many rights hold it
abbrev pub held_text : OpenRow → List ℕ
held_text r = if r.holders == 1 then codes "held once" else codes "held" ++ (spaced r.holders ++ codes " times")

-- the places of nodes, each after a space
abbrev pub node_places : View → List Name → List ℕ
node_places v [] = []
node_places v (n ∷ ns) = (32 ∷ node_path v n) ++ node_places v ns

-- the same with none in front of the first; or that there are none
abbrev pub places_text : View → List Name → List ℕ
places_text v [] = codes "(none)"
places_text v (n ∷ ns) = node_path v n ++ node_places v ns

-- what a server aims at, if it aims at any
abbrev pub targets_part : View → List Name → Option (List ℕ)
targets_part v [] = None
targets_part v (n ∷ ns) = Some (codes "targets " ++ places_text v (n ∷ ns))

-- a uid, or that there is none
abbrev pub uid_or_none : Option ℕ → List ℕ
uid_or_none None = codes "(nobody)"
uid_or_none (Some u) = decimal u

-- the uid that is told of some ids: the least
abbrev pub uid_text : IdSets → List ℕ
uid_text ids = uid_or_none (least_uid ids)

-- a mark and bytes after a space, where there are any bytes
abbrev pub marked_text : List ℕ → List ℕ → List ℕ
marked_text mark [] = []
marked_text mark (b ∷ bs) = 32 ∷ (mark ++ spelled (b ∷ bs))

-- the program of a server, and after it what whoever knows it is told: a link's text, or the word that says a tree's limit
abbrev pub program_text : ServerRow → List ℕ
program_text s = spelled_or_none s.program ++ marked_text (text_mark s.program) s.text

-- the program of a server, what it aims at, where its root is, and whom it runs as; or that it is gone
abbrev pub server_parts : View → List ℕ → Option (Option ServerRow) → List ℕ
server_parts v words None = words
server_parts v words (Some None) = parted words ++ codes "gone"
server_parts v words (Some (Some s)) =
    with_part (with_part (with_part (with_part words
    (Some (codes "program " ++ program_text s)))
    (targets_part v s.targets))
    (Some (codes "root " ++ node_path v s.root)))
    (Some (codes "runs as " ++ uid_text s.ids))

-- the words after the first
abbrev pub words_behind : List (List ℕ) → List (List ℕ)
words_behind [] = []
words_behind (word ∷ words) = words

-- the text of a server, as the words that would give it such a one
abbrev pub words_text : TextRow → List ℕ
words_text r = words_or_none (words_behind r.options)

-- of a text that is not there nothing is said
abbrev pub text_part : Option (Option TextRow) → Option (List ℕ)
text_part (Some (Some r)) = Some (codes "text " ++ words_text r)
text_part _ = None

-- a number by its word
abbrev pub number_text : List ℕ → ℕ → List ℕ
number_text word n = word ++ spaced n

-- what is seen of a node, by its parts
abbrev pub node_parts : View → Name → Row → List ℕ
node_parts v n r =
    with_part (with_part (with_part (with_part (with_part (with_part (with_part []
    (option_map node_text r.attributes))
    (home_part v r.attributes))
    (active_part v r.attributes))
    (ends_part r.ends))
    (parent_part v r.attributes))
    (body_part (program_of v n r.attributes) r.body))
    (empty_part r.body r.empty)

-- all that is seen under a name, by its parts; at last the users of a server, and the total of a tree
abbrev pub seen_of : View → Name → Row → List ℕ
seen_of v n r =
    with_part (with_part (with_part (server_parts v (with_part (with_part (with_part (node_parts v n r)
    (on_part v n r.opened))
    (option_map cursor_text r.opened))
    (option_map held_text r.opened))
    r.server)
    (text_part r.text))
    (option_map (number_text (codes "users")) r.users))
    (option_map (number_text (codes "total")) r.total)

-- a name's line, where anything is seen under it
abbrev pub seen_line : List ℕ → View → Name → List ℕ
seen_line who v n = if shows (row_at v.rows n) then line_from who (place_of v n) (seen_of v n (row_at v.rows n)) else []

-- a name's line, if there is a name
abbrev pub seen_at : List ℕ → View → Option Name → List ℕ
seen_at who v None = []
seen_at who v (Some n) = seen_line who v n

-- the lines of these names, in their order
abbrev pub seen_lines : List ℕ → View → List Name → List ℕ
seen_lines who v ns = concat (map (seen_line who v) ns)

-- the numbers of ports, each after a space
abbrev pub port_numbers : List Port → List ℕ
port_numbers [] = []
port_numbers (p ∷ ps) = spaced p.number ++ port_numbers ps

-- what a task is to start
abbrev pub start_text : View → PendingStart → List ℕ
start_text v s = codes "to start " ++ (words_or_none s.words ++ (codes " on " ++ node_path v s.node))

-- a task: whom it acts for, its ports, how many rights it was sent, its next port, how many things it made, and what it is to start
abbrev pub task_text : View → Task → List ℕ
task_text v x =
    with_part (with_part (with_part (with_part (with_part (with_part []
    (Some (codes "uid " ++ uid_text x.ids)))
    (Some (codes "ports" ++ port_numbers x.ports)))
    (Some (codes "inbox" ++ spaced (length x.inbox))))
    (Some (codes "next port" ++ spaced x.next)))
    (Some (codes "made" ++ spaced x.made)))
    (option_map (start_text v) x.pending)

-- the same of a task that may be there
abbrev pub seat_text : View → Option Task → List ℕ
seat_text v None = codes "gone"
seat_text v (Some x) = task_text v x

-- the line of a task, and of these tasks
abbrev pub seat_line : List ℕ → View → TaskId → Option Task → List ℕ
seat_line who v t x = line_from who (codes "task" ++ spaced t.0) (seat_text v x)

abbrev pub seat_lines : List ℕ → View → List TaskId → List (Option Task) → List ℕ
seat_lines who v [] xs = []
seat_lines who v (t ∷ ts) [] = []
seat_lines who v (t ∷ ts) (x ∷ xs) = seat_line who v t x ++ seat_lines who v ts xs

-- all that is seen: what has a name, the tasks themselves, and how many tasks there are
abbrev pub seen_text : List ℕ → View → List ℕ
seen_text who v = seen_lines who v (names_of v) ++ (seat_lines who v v.sight.tasks.items v.seats.items ++ line_from who (codes "tasks") (decimal v.count))
