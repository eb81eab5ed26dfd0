-- The box of a server, what it aims at, and on which nodes servers are active.
use Rattle.std.specs.Prelude.{ℕ, ◌++◌, List, [], ◌∷◌, Option, Some, None, codes, option_and_then}
use Rattle.hurd_creds.specs.Access.{least_uid}
use Rattle.hurd_creds.specs.declared.name.Name.{Name}
use Rattle.hurd_views.specs.Marks.{text_mark}
use Rattle.hurd_views.specs.declared.rows.NodeRow.{NodeRow}
use Rattle.hurd_views.specs.declared.rows.ServerRow.{ServerRow}
use Rattle.hurd_views.specs.declared.rows.TextRow.{TextRow}
use Rattle.hurd_views.specs.declared.view.View.{View}
use Rattle.hurd_pictures.specs.Found.{active_of, root_of}
use Rattle.hurd_pictures.specs.Labels.{arrow_text, runner_text, short_label, words_text}
use Rattle.hurd_pictures.specs.Nodes.{box_end, box_text, unseen_text}
use Rattle.hurd_pictures.specs.declared.names.Titles.{Titles}

-- an arrow from a server's root to a target; both are drawn, also where they aren't seen
abbrev pub target_text : View → Name → Name → List ℕ
target_text v root n =
    unseen_text v root ++ (unseen_text v n ++ (arrow_text root n
    ++ codes " [style=dotted, penwidth=2, color=\"#1f6f43\", fontcolor=\"#1f6f43\", label=<shows>, constraint=false];\n"))

-- an arrow to each of these targets
abbrev pub targets_text : View → Name → List Name → List ℕ
targets_text v root [] = []
targets_text v root (n ∷ ns) = target_text v root n ++ targets_text v root ns

-- a mark and the first of some bytes after a space, where there are any bytes
abbrev pub marked_label : List ℕ → List ℕ → List ℕ
marked_label mark [] = []
marked_label mark (b ∷ bs) = codes " " ++ (mark ++ short_label (b ∷ bs))

-- the program of a server, and after it a link's text, or the word that says a tree's limit
abbrev pub program_text : ServerRow → List ℕ
program_text s = short_label s.program ++ marked_label (text_mark s.program) s.text

-- what a server's box is called: by its words where they are seen, else by its program
abbrev pub called_text : ServerRow → Option (Option TextRow) → List ℕ
called_text s (Some (Some r)) = words_text r.options
called_text s _ = program_text s

-- the label of a server's box: what it is called, and whom it runs as
unfoldable pub box_label : Titles → ServerRow → Option (Option TextRow) → List ℕ
box_label t s r = codes "label=<<b>" ++ (called_text s r ++ (codes "</b><br/>runs as " ++ (runner_text t (least_uid s.ids) ++ codes ">;")))

-- a server's box with its label, and what the server aims at
abbrev pub server_text : Titles → View → Name → ServerRow → Option (Option TextRow) → List ℕ
server_text t v n s r = box_text (Some n) ++ (box_label t s r ++ (box_end (Some n) ++ targets_text v s.root s.targets))

-- the same of a server that may be there
abbrev pub served_text : Titles → View → Name → Option (Option ServerRow) → Option (Option TextRow) → List ℕ
served_text t v n (Some (Some s)) r = server_text t v n s r
served_text t v n _ r = []

-- an arrow from a node to the root of a server, if there is one
abbrev pub served_by : View → Name → Option Name → List ℕ
served_by v n None = []
served_by v n (Some root) =
    unseen_text v root ++ (arrow_text n root ++ codes " [style=dashed, penwidth=2, color=\"#1f4fa3\", fontcolor=\"#1f4fa3\", label=<served by>];\n")

-- an arrow from a node to the root of the server that is active on it
abbrev pub active_text : View → Name → Option NodeRow → List ℕ
active_text v n r = served_by v n (option_and_then (root_of v) (active_of r))
