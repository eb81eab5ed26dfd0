-- A picture of all that some tasks see, with what others see, and what more these could be shown.
use Rattle.std.specs.Prelude.{ℕ, ◌++◌, List, [], Option, Some, None, codes, map}
use Rattle.std.specs.List.{concat}
use Rattle.hurd_creds.specs.declared.name.Name.{Name}
use Rattle.hurd_creds.specs.declared.name.TaskId.{TaskId}
use Rattle.hurd_views.specs.Views.{row_at}
use Rattle.hurd_views.specs.declared.rows.Row.{Row}
use Rattle.hurd_views.specs.declared.view.View.{View}
use Rattle.hurd_pictures.specs.Labels.{shown}
use Rattle.hurd_pictures.specs.Nodes.{listing_text, mark_of, node_text}
use Rattle.hurd_pictures.specs.Servers.{active_text, served_text}
use Rattle.hurd_pictures.specs.Tasks.{seats_text}
use Rattle.hurd_pictures.specs.declared.names.Titles.{Titles}

-- the names of a view, in its order
abbrev pub names_of : View → List Name
names_of v = map (λ e. e.0) v.rows

-- what is drawn of a row: its node, its server, the arrows to its entries, and that to the root of the server that is active on it
abbrev pub row_text : Titles → View → Option View → Option View → Name → Row → List ℕ
row_text t v theirs wide n r =
    node_text t v (mark_of theirs wide n) n r.attributes r ++ (served_text t v n r.server r.text ++ (listing_text v n r.body ++ active_text v n r.attributes))

-- the same by a name
abbrev pub drawn : Titles → View → Option View → Option View → Name → List ℕ
drawn t v theirs wide n = row_text t v theirs wide n (row_at v.rows n)

-- the same by a name that may be there
abbrev pub drawn_at : Titles → View → Option View → Option View → Option Name → List ℕ
drawn_at t v theirs wide None = []
drawn_at t v theirs wide (Some n) = drawn t v theirs wide n

-- what is drawn of these names, in their order
abbrev pub rows_text : Titles → View → Option View → Option View → List Name → List ℕ
rows_text t v theirs wide ns = concat (map (drawn t v theirs wide) ns)

-- what a picture begins with
abbrev pub head : List ℕ
head = codes "digraph hurd {\n  rankdir=LR; nodesep=0.3; ranksep=0.6; fontname=\"Helvetica\"; fontsize=14;\n  style=\"rounded,filled\"; color=\"#8a93a6\"; fillcolor=\"#f4f6fb\"; bgcolor=white;\n  node [fontname=\"Helvetica\", fontsize=13, style=filled, fillcolor=white];\n  edge [fontname=\"Helvetica\", fontsize=11, arrowsize=0.7];\n"

-- what is in front of those who are marked
abbrev pub legend_begin : List ℕ
legend_begin = codes "  label=<<table border=\"0\" cellspacing=\"6\"><tr><td>What <b>"

-- what comes after them: the colours
abbrev pub legend_colours : List ℕ
legend_colours = codes "</b>:</td><td border=\"2\" color=\"#c98a00\" bgcolor=\"#ffe08a\">all of it</td><td border=\"2\" color=\"#c98a00\" bgcolor=\"white\">that it is there, its owner, mode and size</td><td border=\"1\" style=\"dashed\" color=\"#9a9a9a\" bgcolor=\"#ececec\"><font color=\"#6a6a6a\">nothing of it</font></td>"

-- the colour of what others could show more of, if there is a wider view
abbrev pub helped_cell : Option View → List ℕ
helped_cell None = []
helped_cell (Some wide) = codes "<td border=\"2\" color=\"#0b5cad\" bgcolor=\"#d3e4f8\">users other than root could show more of it</td>"

-- what the legend ends with
abbrev pub legend_end : List ℕ
legend_end = codes "</tr></table>>;\n"

-- who are marked, and what the colours say, with these cells more
unfoldable pub colours : List ℕ → List ℕ → List ℕ
colours who more = legend_begin ++ (shown who ++ (legend_colours ++ (more ++ legend_end)))

-- the same, if any are marked
abbrev pub legend : List ℕ → Option View → Option View → List ℕ
legend who None wide = []
legend who (Some theirs) wide = colours who (helped_cell wide)

-- the whole text: what it begins with, the legend, what is drawn of each name of the view, the ports of these tasks, and the end
abbrev pub picture : Titles → List TaskId → View → List ℕ → Option View → Option View → List ℕ
picture t tasks v who theirs wide =
    head ++ (legend who theirs wide ++ (rows_text t v theirs wide (names_of v) ++ (seats_text t v tasks v.seats.items ++ codes "}\n")))
