-- By what a node is called.
use Rattle.std.specs.Prelude.{ℕ, ◌&&◌, ◌++◌, Bool, true, false, not, List, [], ◌∷◌, Option, Some, None, if◌then◌else◌, bytes_eq, codes, is_some}
use Rattle.hurd_creds.specs.declared.name.Name.{Name}
use Rattle.hurd_creds.specs.Names.{same_name}
use Rattle.hurd_sight.specs.Found.{why_of}
use Rattle.hurd_sight.specs.declared.found.Why.{Why}
use Rattle.hurd_sight.specs.declared.found.Why.TheVariants as why
use Rattle.hurd_views.specs.Views.{row_at}
use Rattle.hurd_views.specs.declared.rows.BodyRow.{BodyRow}
use Rattle.hurd_views.specs.declared.rows.BodyRow.TheVariants as body
use Rattle.hurd_views.specs.declared.rows.EntryRow.{EntryRow}
use Rattle.hurd_views.specs.declared.rows.NodeRow.{NodeRow}
use Rattle.hurd_views.specs.declared.rows.Row.{Row}
use Rattle.hurd_views.specs.declared.rows.ServerRow.{ServerRow}
use Rattle.hurd_views.specs.declared.view.View.{View}
use Rattle.hurd_pictures.specs.Labels.{shown}
use Rattle.hurd_pictures.specs.declared.names.Sought.{Sought}
use Rattle.hurd_pictures.specs.declared.names.Sought.TheVariants as sought

-- whether a name is the one that may be there
abbrev pub is_it : Name → Option Name → Bool
is_it n None = false
is_it n (Some m) = same_name n m

-- the entries that are seen of a directory
abbrev pub listed_in : Option (Option BodyRow) → List EntryRow
listed_in (Some (Some (body.Entries es))) = es
listed_in _ = []

-- whether one of these entries names a node
abbrev pub has_entry : List EntryRow → Name → Bool
has_entry [] n = false
has_entry (e ∷ es) n = if same_name e.node n then true else has_entry es n

-- the name of the first entry that has a node; none where there is no such entry
abbrev pub entry_name : List EntryRow → Name → List ℕ
entry_name [] n = []
entry_name (e ∷ es) n = if same_name e.node n then e.name else entry_name es n

-- the name under which a directory has a node
abbrev pub name_in : View → Name → Name → List ℕ
name_in v d n = entry_name (listed_in (row_at v.rows d).body) n

-- the server that is active on a node, where that is seen
abbrev pub active_of : Option NodeRow → Option Name
active_of None = None
active_of (Some r) = r.active

-- a directory is looked for by a node that it has, and a node by the server that is active on it
abbrev pub is_sought : Sought → Row → Bool
is_sought (sought.Directory n) r = has_entry (listed_in r.body) n
is_sought (sought.Seat s) r = is_it s (active_of r.attributes)

-- the first name of these under which what is looked for is seen
abbrev pub first_sought : View → Sought → List (Name × Row) → Option Name
first_sought v s [] = None
first_sought v s (e ∷ es) = if is_sought s (row_at v.rows e.0) then Some e.0 else first_sought v s es

-- the first directory of a view that has a node
abbrev pub directory_of : View → Name → Option Name
directory_of v n = first_sought v (sought.Directory n) v.rows

-- the first node of a view on which a server is active
abbrev pub seat_of : View → Name → Option Name
seat_of v s = first_sought v (sought.Seat s) v.rows

-- the root of a server, where the server is seen
abbrev pub root_in : Option (Option ServerRow) → Option Name
root_in (Some (Some s)) = Some s.root
root_in _ = None

-- the same of a server by its name
abbrev pub root_of : View → Name → Option Name
root_of v s = root_in (row_at v.rows s).server

-- a node is the root of the tree where it was found as that
abbrev pub is_root_why : Option Why → Bool
is_root_why (Some why.Root) = true
is_root_why _ = false

-- whether a node is the root of the tree
abbrev pub is_tree_root : View → Name → Bool
is_tree_root v n = is_root_why (why_of n v.sight.found)

-- whether a node is neither the root of the tree nor an entry
abbrev pub is_nameless : View → Name → Bool
is_nameless v n = not (is_tree_root v n) && not (is_some (directory_of v n))

-- whether a node is called by this entry of a directory
abbrev pub is_title : View → Name → EntryRow → Bool
is_title v d e = not (is_tree_root v e.node) && (is_it d (directory_of v e.node) && bytes_eq (name_in v d e.node) e.name)

-- what a node is called in a directory, if there is one
abbrev pub entry_title : View → Name → Option Name → List ℕ
entry_title v n None = codes "(no name)"
entry_title v n (Some d) = shown (name_in v d n)

-- what a node is called by itself: the root of the tree by its path, any other by the first entry that has it
unfoldable pub plain_title : View → Name → List ℕ
plain_title v n = if is_tree_root v n then codes "/" else entry_title v n (directory_of v n)

-- the root of a server by the node on which that is active
abbrev pub seat_title : View → Option Name → List ℕ
seat_title v None = codes "(no name)"
seat_title v (Some n) = codes "root of " ++ plain_title v n

-- what the root of a server is called that has no name of its own
abbrev pub root_title : View → Name → List ℕ
root_title v s = seat_title v (seat_of v s)

-- what a node of this server is called
abbrev pub title_text : View → Name → Option Name → List ℕ
title_text v n None = plain_title v n
title_text v n (Some s) = if is_nameless v n && is_it n (root_of v s) then root_title v s else plain_title v n
