-- Entries of directories, and what is made in them.
use Rattle.std.specs.Prelude.{ℕ, nat_lt, not, Bool, true, false, cond, is_some, if◌then◌else◌, List, [], ◌∷◌, ◌++◌, map, Option, Some, None, Result, Ok, Err}
use Rattle.std.specs.Str.{bytes_eq}
use Rattle.std.specs.Option.{option_map}
use Rattle.hurd_creds.specs.declared.name.Name.{Name}
use Rattle.hurd_creds.specs.Names.{is_one}
use Rattle.hurd_creds.specs.declared.attrs.Kind.{Kind}
use Rattle.hurd_creds.specs.declared.attrs.Kind.TheVariants.{File, Dir}
use Rattle.hurd_creds.specs.declared.errno.Errno.{Errno}
use Rattle.hurd_creds.specs.declared.errno.Errno.TheVariants.{EEXIST, ENOENT, EXDEV, ENOTDIR, EISDIR, EROFS, EOPNOTSUPP, EDIED, ENOSPC, EOVERFLOW}
use Rattle.hurd_trans_iface.specs.declared.header_edit.HeaderEdit.{HeaderEdit}
use Rattle.hurd_trans_iface.specs.declared.header_edit.HeaderEdit.TheVariants.{SetAttrs, SetPassive}
use Rattle.hurd_trans_iface.specs.declared.new_node.NewNode.{NewNode}
use Rattle.hurd_trans_iface.specs.declared.root.Root.{Root}
use Rattle.hurd_trans_iface.specs.declared.root.Crossing.{Crossing}
use Rattle.hurd_trans_iface.specs.declared.root.Crossing.TheVariants.{Plain, Link, Firm, Union}
use Rattle.hurd_trans_iface.specs.Nodes.{Entry, Header, Body, Content, Listing, Node, Edit, OnHeader, OnBody, AddNode, is_dir, linked, unlinked, moved_to, with_attrs, with_passive, with_entry, without_entry, new_file, new_dir, with_header}
use Rattle.hurd_trans_iface.specs.Totals.{counts_for, overfills}

-- the node of the first entry of this name
abbrev pub entry_in : List ℕ → List Entry → Option Name
entry_in name [] = None
entry_in name (e ∷ es) = cond (bytes_eq e.name name) (Some e.node) (entry_in name es)

abbrev pub entry_of : List ℕ → Option Body → Option Name
entry_of name (Some (Listing es)) = entry_in name es
entry_of name _ = None

-- the names of a directory's entries
abbrev pub names_of : Option Body → Result (List (List ℕ)) Errno
names_of (Some (Listing es)) = Ok (map (λ e. e.name) es)
names_of (Some (Content bs)) = Err ENOTDIR
names_of None = Err EDIED

abbrev pub is_plain : Crossing → Bool
is_plain Plain = true
is_plain (Link absolute) = false
is_plain Firm = false
is_plain Union = false

-- nobody comes to be at such a root: whoever crosses it is led to the one node that its server aims at
abbrev pub leads_away : Crossing → Bool
leads_away Firm = true
leads_away Plain = false
leads_away (Link absolute) = false
leads_away Union = false

-- a server whose root is a plain directory keeps a tree: nodes can be made in its directories
abbrev pub is_tree : Root → Bool
is_tree root = if is_dir root.kind then is_plain root.crossing else false

-- a node of this kind, made in this directory; a tree of files and directories has no others
abbrev pub node_of_kind : Name → NewNode → Kind → Option Node
node_of_kind dir new File = Some (new_file new.owner new.group new.mode)
node_of_kind dir new Dir = Some (new_dir new.owner new.group new.mode (Some dir))
node_of_kind dir new _ = None

-- as it begins where an entry names it, or none does: then it is like one that has lost its only one
abbrev pub named_by : Option (List ℕ) → Node → Node
named_by (Some name) x = x
named_by None x = with_header unlinked x

-- the node that is made in a directory, under a name or without an entry
abbrev pub made_node : Name → Option (List ℕ) → NewNode → Option Node
made_node dir entry new = option_map (named_by entry) (node_of_kind dir new new.kind)

-- whether a tree has nodes of this kind
abbrev pub is_made : Kind → Bool
is_made File = true
is_made Dir = true
is_made _ = false

-- whether a name is taken among the entries of a directory; where none is given, none is
abbrev pub is_taken : Option (List ℕ) → Body → Bool
is_taken None b = false
is_taken (Some name) b = is_some (entry_of name (Some b))

-- whether a node of this kind may be made in a directory, under a name or without an entry, where the directory's server keeps a tree or doesn't
abbrev pub make_of : Bool → Option (List ℕ) → Kind → Option Node → Result (Unit {0}) Errno
make_of keeps entry kind None = Err EDIED
make_of keeps entry kind (Some d) =
    if not (is_dir d.header.kind) then Err ENOTDIR else if not keeps then Err EROFS
    else if is_taken entry d.body then Err EEXIST else if is_made kind then Ok tt else Err EOPNOTSUPP

-- the entry of a node, if one is to name it
abbrev pub entering : Name → Option (List ℕ) → Name → List Edit
entering dir None n = []
entering dir (Some name) n = OnBody dir (with_entry name n) ∷ []

abbrev pub added : Name → Option (List ℕ) → Name → Option Node → List Edit
added dir entry n None = []
added dir entry n (Some x) = AddNode n x ∷ entering dir entry n

-- the new node, and its entry
abbrev pub make_edits : Name → Option (List ℕ) → NewNode → List Edit
make_edits dir entry new = added dir entry new.name (made_node dir entry new)

-- the greatest number of links of a file
abbrev pub most_links : ℕ
most_links = 4294967295

-- whether a node may get a name in this directory of a tree with so much space; `kin`: the two are of one server
abbrev pub link_in : Option ℕ → List ℕ → Bool → Node → Option Node → Result (Unit {0}) Errno
link_in space name kin d None = Err EDIED
link_in space name kin d (Some x) =
    if not kin then Err EXDEV else if is_dir x.header.kind then Err EISDIR else if is_some (entry_of name (Some d.body)) then Err EEXIST
    else if overfills space (counts_for x.header) (counts_for (linked x.header)) then Err ENOSPC else if nat_lt x.header.links most_links then Ok tt else Err EOVERFLOW

-- whether a node may get a name in a directory, where the directory's server keeps a tree or doesn't, and has so much space
abbrev pub link_of : Bool → Option ℕ → List ℕ → Bool → Option Node → Option Node → Result (Unit {0}) Errno
link_of keeps space name kin None x = Err EDIED
link_of keeps space name kin (Some d) x = if not (is_dir d.header.kind) then Err ENOTDIR else if not keeps then Err EROFS else link_in space name kin d x

-- the entry, and the file with one link more
abbrev pub link_edits : Name → List ℕ → Name → List Edit
link_edits dir name n = OnBody dir (with_entry name n) ∷ OnHeader n linked ∷ []

-- whether the entry of a name may be taken out of a directory, where its server keeps a tree or doesn't; of what it
-- names nothing is asked
abbrev pub unlink_of : Bool → List ℕ → Option Node → Result (Unit {0}) Errno
unlink_of keeps name None = Err EDIED
unlink_of keeps name (Some d) =
    if not (is_dir d.header.kind) then Err ENOTDIR else if not keeps then Err EROFS
    else if is_some (entry_of name (Some d.body)) then Ok tt else Err ENOENT

-- the first entry of a name goes, which names this node, if any
abbrev pub unlink_edits : Name → List ℕ → Option Name → List Edit
unlink_edits dir name None = []
unlink_edits dir name (Some n) = OnBody dir (without_entry name) ∷ OnHeader n unlinked ∷ []

-- whether an entry of this directory may go to another one, which may not be there
abbrev pub rename_to : List ℕ → Node → Option Node → Result (Unit {0}) Errno
rename_to name d None = Err EDIED
rename_to name d (Some t) = if not (is_dir t.header.kind) then Err ENOTDIR else if is_some (entry_of name (Some d.body)) then Ok tt else Err ENOENT

-- whether the entry of a name may go from a directory to another, where the first one's server keeps a tree or doesn't; `kin`: the
-- two are of one server
abbrev pub rename_of : Bool → List ℕ → Bool → Option Node → Option Node → Result (Unit {0}) Errno
rename_of keeps name kin None t = Err EDIED
rename_of keeps name kin (Some d) t =
    if not (is_dir d.header.kind) then Err ENOTDIR else if not keeps then Err EROFS
    else if kin then rename_to name d t else Err EXDEV

-- what the new name named is unlinked, the entry of the node goes, a directory gets its new parent, and the entry under the new name comes last
abbrev pub move_edits : Name → List ℕ → Name → List ℕ → Name → Option Name → List Edit
move_edits dir name to new n m =
    unlink_edits to new m ++ OnBody dir (without_entry name) ∷ OnHeader n (moved_to to) ∷ OnBody to (with_entry new n) ∷ []

-- from what `name` names to what `new` names; where the two are one node nothing changes
abbrev pub rename_edits : Name → List ℕ → Name → List ℕ → Option Name → Option Name → List Edit
rename_edits dir name to new None m = []
rename_edits dir name to new (Some n) m = if is_one n m then [] else move_edits dir name to new n m

-- the header after an edit of it
abbrev pub header_after : HeaderEdit → Header → Header
header_after (SetAttrs owner group mode) = with_attrs owner group mode
header_after (SetPassive words) = with_passive words

-- whether the header of a node may be edited, whose server keeps a tree or doesn't
abbrev pub set_header_of : Bool → Option Node → Result (Unit {0}) Errno
set_header_of keeps None = Err EDIED
set_header_of keeps (Some x) = if keeps then Ok tt else Err EOPNOTSUPP

abbrev pub header_edits : Name → HeaderEdit → List Edit
header_edits n e = OnHeader n (header_after e) ∷ []

-- the answer of such an edit of one node, and the node that it leaves
abbrev pub header_edited : Bool → HeaderEdit → Node → Result (Unit {0}) Errno × Node
header_edited true e x = (Ok tt, with_header (header_after e) x)
header_edited false e x = (Err EOPNOTSUPP, x)

-- the edits of a call that isn't refused
abbrev pub edits_if : {T : Type 0} → Result T Errno → List Edit → List Edit
edits_if (Ok x) es = es
edits_if (Err e) es = []
