-- A node in the box of its server, and the arrows to its entries.
use Rattle.std.specs.Prelude.{ℕ, ◌/◌, ◌==◌, ◌&&◌, ◌||◌, ◌++◌, not, Bool, true, false, List, [], ◌∷◌, Option, Some, None, if◌then◌else◌, codes, decimal, is_some, nat_lt}
use Rattle.hurd_creds.specs.declared.attrs.Attrs.{Attrs}
use Rattle.hurd_creds.specs.declared.attrs.Kind.{Kind}
use Rattle.hurd_creds.specs.declared.attrs.Kind.TheVariants.{File, Dir, Link, Fifo, Char}
use Rattle.hurd_creds.specs.declared.name.Name.{Name}
use Rattle.hurd_words.specs.Printing.{kind_letter, octal_digit, six_octal_digits, spaced}
use Rattle.hurd_ports.specs.declared.table.Ends.{Ends}
use Rattle.hurd_views.specs.Views.{row_at}
use Rattle.hurd_views.specs.declared.rows.BodyRow.{BodyRow}
use Rattle.hurd_views.specs.declared.rows.BodyRow.TheVariants as body
use Rattle.hurd_views.specs.declared.rows.EntryRow.{EntryRow}
use Rattle.hurd_views.specs.declared.rows.NodeRow.{NodeRow}
use Rattle.hurd_views.specs.declared.rows.Row.{Row}
use Rattle.hurd_views.specs.declared.view.View.{View}
use Rattle.hurd_pictures.specs.Found.{is_title, listed_in, plain_title, title_text}
use Rattle.hurd_pictures.specs.Labels.{arrow_text, node_name, numbers_text, owner_text, short_label, shown, words_text}
use Rattle.hurd_pictures.specs.declared.names.Titles.{Titles}
use Rattle.hurd_pictures.specs.declared.nodes.Mark.{Mark}
use Rattle.hurd_pictures.specs.declared.nodes.Mark.TheVariants.{Plain, Unseen, Outside, Inside, Helped}

-- how much of a thing is seen: what is in it, else its attributes, else nothing
abbrev pub mark_in : Row → Mark
mark_in r = if is_some r.body then Inside else if is_some r.attributes then Outside else Unseen

-- whether a wider row shows more of a thing than another: what is in it, or its attributes
abbrev pub shows_more : Row → Row → Bool
shows_more wide r = (is_some wide.body && not (is_some r.body)) || (is_some wide.attributes && not (is_some r.attributes))

-- how much of a node is seen by this row, or, by a wider view, that others could show more of it
abbrev pub mark_with : Row → Option View → Name → Mark
mark_with r None n = mark_in r
mark_with r (Some wide) n = if shows_more (row_at wide.rows n) r then Helped else mark_in r

-- the same by the view of those who are marked; without a view nobody is
abbrev pub mark_of : Option View → Option View → Name → Mark
mark_of None wide n = Plain
mark_of (Some v) wide n = mark_with (row_at v.rows n) wide n

-- the colours of a mark
abbrev pub mark_style : Mark → List ℕ
mark_style Plain = []
mark_style Unseen = codes ", fillcolor=\"#ececec\", color=\"#9a9a9a\", fontcolor=\"#6a6a6a\", style=\"filled,dashed\""
mark_style Outside = codes ", fillcolor=white, color=\"#c98a00\", penwidth=2"
mark_style Inside = codes ", fillcolor=\"#ffe08a\", color=\"#c98a00\", penwidth=2"
mark_style Helped = codes ", fillcolor=\"#d3e4f8\", color=\"#0b5cad\", penwidth=2"

-- the shape of a kind
abbrev pub shape : Kind → List ℕ
shape File = codes "note"
shape Dir = codes "folder"
shape Link = codes "cds, margin=\"0.25,0.1\""
shape Fifo = codes "cylinder"
shape Char = codes "component"

-- a mode by three octal digits, or as many more as it wants
abbrev pub short_mode : ℕ → List ℕ
short_mode n =
    if nat_lt n 512 then octal_digit (n / 64) ∷ octal_digit (n / 8) ∷ octal_digit n ∷ []
    else if nat_lt n 4096 then octal_digit (n / 512) ∷ octal_digit (n / 64) ∷ octal_digit (n / 8) ∷ octal_digit n ∷ []
    else six_octal_digits n

-- the word after a number of bytes
abbrev pub bytes_word : ℕ → List ℕ
bytes_word n = if n == 1 then codes " byte" else codes " bytes"

-- the size of what is no directory
abbrev pub size_text : Attrs → List ℕ
size_text a = if kind_letter a.kind == 100 then [] else codes ", " ++ (decimal a.size ++ bytes_word a.size)

-- kind, mode, owner and group, and the size
abbrev pub attrs_text : Titles → Attrs → List ℕ
attrs_text t a = kind_letter a.kind ∷ (short_mode a.mode.0 ++ (32 ∷ (owner_text t a.owner ++ (58 ∷ (decimal a.group ++ size_text a)))))

-- how many opens read a node and how many write it, where that is seen, and its server is told
abbrev pub ends_text : Option (Option Ends) → List ℕ
ends_text (Some (Some e)) = codes "<br/>readers" ++ (spaced e.readers ++ (codes ", writers" ++ spaced e.writers))
ends_text _ = []

-- a line with the first of some bytes
abbrev pub font_text : List ℕ → List ℕ
font_text bs = codes "<br/><font face=\"monospace\">" ++ (short_label bs ++ codes "</font>")

-- the same, where there are any bytes
abbrev pub bytes_line : List ℕ → List ℕ
bytes_line [] = []
bytes_line (b ∷ bs) = font_text (b ∷ bs)

-- the same of what is seen in a node
abbrev pub content_text : Option (Option BodyRow) → List ℕ
content_text (Some (Some (body.Bytes bs))) = bytes_line bs
content_text _ = []

-- who reads and writes a node, and what is in it
abbrev pub inside_text : Row → List ℕ
inside_text x = ends_text x.ends ++ content_text x.body

-- a line with these words of a passive translator
abbrev pub italics_text : List (List ℕ) → List ℕ
italics_text words = codes "<br/><i>passive " ++ (words_text words ++ codes "</i>")

-- the same, where there are any words
abbrev pub passive_text : List (List ℕ) → List ℕ
passive_text [] = []
passive_text (word ∷ words) = italics_text (word ∷ words)

-- the box of a server begins
abbrev pub server_box : Name → List ℕ
server_box s = codes "  subgraph cluster_" ++ (numbers_text s ++ codes " { cluster=true; ")

-- the same, if there is a server
abbrev pub box_text : Option Name → List ℕ
box_text None = codes "  "
box_text (Some s) = server_box s

-- and ends
abbrev pub box_end : Option Name → List ℕ
box_end None = codes "\n"
box_end (Some s) = codes " }\n"

-- the label of a node that is there: what it is called, its attributes, what is seen in it, and the words of its passive translator
abbrev pub label_text : Titles → View → Name → NodeRow → Attrs → Row → List ℕ
label_text t v n r a x =
    codes "<<b>" ++ (title_text v n r.home ++ (codes "</b><br/>" ++ (attrs_text t a ++ (inside_text x ++ (passive_text r.words ++ codes ">")))))

-- how a node looks, by its attributes if it is there
abbrev pub look_text : Titles → View → Mark → Name → NodeRow → Option Attrs → Row → List ℕ
look_text t v m n r None x = codes " [shape=box, style=\"filled,dashed\", label=<gone>];"
look_text t v m n r (Some a) x = codes " [shape=" ++ (shape a.kind ++ (codes ", label=" ++ (label_text t v n r a x ++ (mark_style m ++ codes "];"))))

-- a node in the box of its server, where the node is seen
abbrev pub node_text : Titles → View → Mark → Name → Option NodeRow → Row → List ℕ
node_text t v m n None x = []
node_text t v m n (Some r) x = box_text r.home ++ (node_name n ++ (look_text t v m n r r.attrs x ++ box_end r.home))

-- whether a node's attributes are seen
abbrev pub is_seen : View → Name → Bool
is_seen v n = is_some (row_at v.rows n).attributes

-- whether it is seen what is in a node
abbrev pub has_body : View → Name → Bool
has_body v n = is_some (row_at v.rows n).body

-- a node by its name, as one of which no attributes are seen
unfoldable pub stub_text : View → Name → List ℕ
stub_text v n = codes "  " ++ (node_name n ++ (codes " [shape=box, style=\"filled,dashed\", label=<<b>" ++ (plain_title v n ++ codes "</b><br/>not seen>];\n")))

-- the same, where none are seen
unfoldable pub unseen_text : View → Name → List ℕ
unseen_text v n = if is_seen v n then [] else stub_text v n

-- the name of an entry at its arrow, unless the node is called so
abbrev pub name_at : Bool → List ℕ → List ℕ
name_at true name = []
name_at false name = codes " [label=<" ++ (shown name ++ codes ">]")

-- an arrow from a directory to an entry
unfoldable pub entry_text : View → Name → EntryRow → List ℕ
entry_text v d e = unseen_text v e.node ++ (arrow_text d e.node ++ (name_at (is_title v d e) e.name ++ codes ";\n"))

-- an arrow to each of these entries
abbrev pub entries_text : View → Name → List EntryRow → List ℕ
entries_text v d [] = []
entries_text v d (e ∷ es) = entry_text v d e ++ entries_text v d es

-- an arrow to each entry that is seen of a directory
abbrev pub listing_text : View → Name → Option (Option BodyRow) → List ℕ
listing_text v d b = entries_text v d (listed_in b)
