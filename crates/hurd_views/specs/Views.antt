-- What a set of tasks sees of a world, as it is kept to be compared.
use Rattle.std.specs.Prelude.{◌≡◌, ◌↔◌, ℕ, Bool, true, false, if◌then◌else◌, List, [], ◌∷◌, ◌++◌, length, map, Option, Some, None, is_some}
use Rattle.std.specs.List.{list_any}
use Rattle.std.specs.Option.{option_map}
use Rattle.hurd_creds.specs.declared.name.Name.{Name}
use Rattle.hurd_creds.specs.declared.name.TaskId.{TaskId}
use Rattle.hurd_creds.specs.declared.attrs.Attrs.{Attrs}
use Rattle.hurd_creds.specs.Names.{same_name}
use Rattle.hurd_trans_iface.specs.Nodes.{Body, Content, Listing, is_empty_dir}
use Rattle.hurd_trans_iface.specs.Answers.{entry_of}
use Rattle.hurd_trans_iface.specs.Meaning.{options_of}
use Rattle.hurd_trans_iface.specs.Totals.{total_in}
use Rattle.hurd_nodes.specs.Shown.{ServerInfo, nodes_in}
use Rattle.hurd_machine.specs.World.{World, nodes_of, active_at, body_at, ends_at, header_at, home_at, open_at, server_at, task_at, words_at}
use Rattle.hurd_machine.specs.Sight.{SameView, Sees, bare, holders, known_text, users}
use Rattle.hurd_machine.specs.Sound.{Sound}
use Rattle.hurd_sight.specs.Looks.{Gathered, Looks, sees_with}
use Rattle.hurd_sight.specs.Parts.{named, part_of}
use Rattle.hurd_sight.specs.Reach.{among}
use Rattle.hurd_sight.specs.declared.found.Why.{Why}
use Rattle.hurd_sight.specs.declared.looks.Sight.{Sight}
use Rattle.hurd_sight.specs.declared.parts.SeenPart.{SeenPart}
use Rattle.hurd_sight.specs.declared.parts.SeenPart.TheVariants as seen
use Rattle.hurd_views.specs.declared.rows.BodyRow.{BodyRow}
use Rattle.hurd_views.specs.declared.rows.BodyRow.TheVariants as body
use Rattle.hurd_views.specs.declared.rows.EntryRow.{EntryRow}
use Rattle.hurd_views.specs.declared.rows.NodeRow.{NodeRow}
use Rattle.hurd_views.specs.declared.rows.Row.{Row}
use Rattle.hurd_views.specs.declared.rows.ServerRow.{ServerRow}
use Rattle.hurd_views.specs.declared.rows.TextRow.{TextRow}
use Rattle.hurd_views.specs.declared.view.View.{View}

-- a value, where the test holds
abbrev pub told_if : {X : Type 0} → Bool → X → Option X
told_if true x = Some x
told_if false x = None

-- attributes as if a directory had entries
abbrev pub with_entries : Attrs → Attrs
with_entries a = record a { empty = false }

-- attributes that are the same, in three parts

abbrev pub HaveSameAccess : Attrs → Attrs → Type 0
HaveSameAccess a b = (a.kind ≡ b.kind) × (a.owner ≡ b.owner) × (a.group ≡ b.group) × (a.mode ≡ b.mode)

abbrev pub HaveSamePlace : Attrs → Attrs → Type 0
HaveSamePlace a b = (a.links ≡ b.links) × (a.size ≡ b.size) × (a.empty ≡ b.empty) × (a.parent ≡ b.parent)

abbrev pub HaveSameMarks : Attrs → Attrs → Type 0
HaveSameMarks a b = (a.passive ≡ b.passive) × (a.active ≡ b.active)

-- a node's attributes, as if a directory had entries; its words, its server, and the one that is active on it
abbrev pub node_row : World → Name → NodeRow
node_row w n = record { attrs = option_map bare (header_at w n); words = words_at w n; home = home_at w n; active = active_at w n }

-- an entry before others, if there is a node
abbrev pub entry_before : List ℕ → Option Name → List EntryRow → List EntryRow
entry_before name None rows = rows
entry_before name (Some n) rows = record { name = name; node = n } ∷ rows

-- of these names each with the first node that a body has under it
abbrev pub rows_in : Option Body → List (List ℕ) → List EntryRow
rows_in b [] = []
rows_in b (name ∷ names) = entry_before name (entry_of name b) (rows_in b names)

-- bytes, or entries in their order
abbrev pub body_row : Body → BodyRow
body_row (Content bs) = body.Bytes bs
body_row (Listing es) = body.Entries (rows_in (Some (Listing es)) (map (λ e. e.name) es))

-- the first of some words
abbrev pub first_word : List (List ℕ) → List ℕ
first_word [] = []
first_word (w ∷ ws) = w

-- a server as whoever knows it sees it: its program, the text that they are told, and what it aims at
abbrev pub server_row : ServerInfo → ServerRow
server_row i = record { program = first_word (options_of i.kind i.text); text = known_text i.kind i.text; root = i.root; ids = i.ids; targets = i.targets }

-- the text of a server, and its program with the words that give it
abbrev pub text_row : ServerInfo → TextRow
text_row i = record { options = options_of i.kind i.text; text = i.text }

-- all that is seen of what has a name, by what was looked at
abbrev pub row_of : World → Sight → Name → Row
row_of w v n = record {
  attributes = told_if (sees_with (nodes_of w) v (seen.Attributes n)) (node_row w n);
  empty = told_if (sees_with (nodes_of w) v (seen.Empty n)) (option_map is_empty_dir (body_at w n));
  body = told_if (sees_with (nodes_of w) v (seen.Body n)) (option_map body_row (body_at w n));
  ends = told_if (sees_with (nodes_of w) v (seen.Ends n)) (ends_at w n);
  opened = told_if (sees_with (nodes_of w) v (seen.Open n)) (record { opened = open_at w n; holders = holders w n });
  server = told_if (sees_with (nodes_of w) v (seen.Options n)) (option_map server_row (server_at w n));
  text = told_if (sees_with (nodes_of w) v (seen.Text n)) (option_map text_row (server_at w n));
  users = told_if (sees_with (nodes_of w) v (seen.Users n)) (users w n);
  total = told_if (sees_with (nodes_of w) v (seen.Total n)) (total_in (nodes_in w.nodes w.sites n));
}

-- rows that are the same, in two parts

abbrev pub HaveSameNode : Row → Row → Type 0
HaveSameNode a b = (a.attributes ≡ b.attributes) × (a.empty ≡ b.empty) × (a.body ≡ b.body) × (a.ends ≡ b.ends) × (a.opened ≡ b.opened)

abbrev pub HaveSameServer : Row → Row → Type 0
HaveSameServer a b = (a.server ≡ b.server) × (a.text ≡ b.text) × (a.users ≡ b.users) × (a.total ≡ b.total)

-- nothing is seen
abbrev pub no_row : Row
no_row = record { attributes = None; empty = None; body = None; ends = None; opened = None; server = None; text = None; users = None; total = None }

-- what there is under a name; of a name that isn't there, nothing is seen
abbrev pub row_at : List (Name × Row) → Name → Row
row_at [] n = no_row
row_at (e ∷ es) n = if same_name n e.0 then e.1 else row_at es n

-- whether anything is kept under a name
abbrev pub has_row : List (Name × Row) → Name → Bool
has_row es n = list_any (λ (e : Name × Row). same_name n e.0) es

-- a row, or nothing
abbrev pub or_no_row : Option Row → Row
or_no_row None = no_row
or_no_row (Some r) = r

-- the rows of these names
abbrev pub rows_for : World → Sight → List Name → List (Name × Row)
rows_for w v ns = map (λ (n : Name). (n, row_of w v n)) ns

-- names are filled in with what is seen under them, each after those that are there, unless it is one of them
abbrev pub Fills : World → Sight → List Name → List (Name × Row) → List (Name × Row) → Type 0
Fills w v ns old new = (ms : List Name) → old ≡ rows_for w v ms → new ≡ rows_for w v (named ns ms)

-- the names of nodes, in the order in which they were found
abbrev pub names_found : List (Name × Why) → List Name
names_found es = map (λ (e : Name × Why). e.0) es

-- the name of a found node, if there is one
abbrev pub name_found : Option (Name × Why) → List Name
name_found None = []
name_found (Some e) = e.0 ∷ []

-- the names of all that was gathered: nodes, opens and servers, each once
abbrev pub names_seen : Sight → List Name
names_seen v = named (names_found v.found ++ (v.rights.opens ++ (v.known ++ v.rights.controlled))) []

-- all that some tasks see of a world
pub record Views (tasks : List TaskId) (w : World) (v : View) : Type 0 where
  pub looks : Looks (among tasks) w v.sight
  pub ours : v.sight.tasks.items ≡ tasks
  pub gathered : Gathered w v.sight
  pub rows : v.rows ≡ rows_for w v.sight (names_seen v.sight)
  -- the tasks themselves, in the order of the list, and how many there are in all
  pub seats : v.seats.items ≡ map (λ (t : TaskId). task_at w t.0) tasks
  pub count : v.count ≡ length w.tasks

-- two views are one: all that was found by the same ways, and the same rows in the same order
pub record IsOneView (v w : View) : Type 0 where
  pub found : v.sight.found ≡ w.sight.found
  pub rows : v.rows ≡ w.rows
  pub seats : v.seats.items ≡ w.seats.items
  pub count : v.count ≡ w.count

-- some tasks have one view of a world
abbrev pub ViewsAreOne : Type 0
ViewsAreOne = (tasks : List TaskId) (w : World) (a b : View) → Views tasks w a → Views tasks w b → IsOneView a b

-- nothing in two views differs
pub record SameRows (v w : View) : Type 0 where
  pub rows : (n : Name) → row_at v.rows n ≡ row_at w.rows n
  pub seats : v.seats.items ≡ w.seats.items
  pub count : v.count ≡ w.count

-- two views in which nothing differs are of worlds that have the same view for these tasks, and any others are not
abbrev pub RowsAreViews : Type 0
RowsAreViews =
    (tasks : List TaskId) (v w : World) (a b : View) → Sound v → Sound w → Views tasks v a → Views tasks w b → SameRows a b ↔ SameView (among tasks) v w

-- a view stays the view of these tasks while nothing that they see changes
abbrev pub ViewsStay : Type 0
ViewsStay =
    (tasks : List TaskId) (v w : World) (a : View) → Sound v → Sound w → SameView (among tasks) v w → Views tasks v a → Views tasks w a

-- whether a row has a part of this kind; none has a task
abbrev pub row_tells : Row → SeenPart → Bool
row_tells r (seen.Attributes n) = is_some r.attributes
row_tells r (seen.Empty n) = is_some r.empty
row_tells r (seen.Body n) = is_some r.body
row_tells r (seen.Ends n) = is_some r.ends
row_tells r (seen.Open n) = is_some r.opened
row_tells r (seen.Options n) = is_some r.server
row_tells r (seen.Text n) = is_some r.text
row_tells r (seen.Users n) = is_some r.users
row_tells r (seen.Total n) = is_some r.total
row_tells r (seen.Task t) = false

-- whether a part was seen, by the row that is kept under its name; of a task by the list
abbrev pub tells_in : View → SeenPart → Bool
tells_in a (seen.Attributes n) = row_tells (row_at a.rows n) (seen.Attributes n)
tells_in a (seen.Empty n) = row_tells (row_at a.rows n) (seen.Empty n)
tells_in a (seen.Body n) = row_tells (row_at a.rows n) (seen.Body n)
tells_in a (seen.Ends n) = row_tells (row_at a.rows n) (seen.Ends n)
tells_in a (seen.Open n) = row_tells (row_at a.rows n) (seen.Open n)
tells_in a (seen.Options n) = row_tells (row_at a.rows n) (seen.Options n)
tells_in a (seen.Text n) = row_tells (row_at a.rows n) (seen.Text n)
tells_in a (seen.Users n) = row_tells (row_at a.rows n) (seen.Users n)
tells_in a (seen.Total n) = row_tells (row_at a.rows n) (seen.Total n)
tells_in a (seen.Task t) = among a.sight.tasks.items t.0

-- a view tells exactly the parts that its tasks see
abbrev pub TellsParts : Type 0
TellsParts = (tasks : List TaskId) (w : World) (a : View) (p : SeenPart) → Views tasks w a → (tells_in a p ≡ true) ↔ Sees (among tasks) w (part_of p)
