-- Which parts of what all users see together are listed, and in which order.
use Rattle.std.specs.Prelude.{Bool, true, false, if◌then◌else◌, List, [], ◌∷◌, ◌++◌, Option, Some, None, is_some}
use Rattle.hurd_creds.specs.declared.name.Name.{Name}
use Rattle.hurd_creds.specs.declared.name.TaskId.{TaskId}
use Rattle.hurd_machine.specs.World.{World}
use Rattle.hurd_machine.specs.Sight.{Sees}
use Rattle.hurd_sight.specs.Parts.{part_of}
use Rattle.hurd_sight.specs.Reach.{among}
use Rattle.hurd_sight.specs.declared.parts.SeenPart.{SeenPart}
use Rattle.hurd_sight.specs.declared.parts.SeenPart.TheVariants as seen
use Rattle.hurd_views.specs.Views.{row_at, tells_in}
use Rattle.hurd_views.specs.declared.rows.BodyRow.{BodyRow}
use Rattle.hurd_views.specs.declared.rows.BodyRow.TheVariants as body
use Rattle.hurd_views.specs.declared.rows.NodeRow.{NodeRow}
use Rattle.hurd_views.specs.declared.rows.Row.{Row}
use Rattle.hurd_views.specs.declared.view.View.{View}
use Rattle.hurd_can.specs.declared.listing.Group.{Group}
use Rattle.hurd_can.specs.declared.listing.Group.TheVariants as group

-- what is in a node, if that is seen and the node is there
abbrev pub body_in : Option (Option BodyRow) → Option BodyRow
body_in (Some (Some b)) = Some b
body_in _ = None

abbrev pub body_at : View → Name → Option BodyRow
body_at v n = body_in (row_at v.rows n).body

abbrev pub has_bytes : Option BodyRow → Bool
has_bytes (Some (body.Bytes bs)) = true
has_bytes _ = false

abbrev pub has_entries : Option BodyRow → Bool
has_entries (Some (body.Entries es)) = true
has_entries _ = false

-- whether a node is seen that is there
abbrev pub is_node : Option NodeRow → Bool
is_node (Some r) = is_some r.attrs
is_node None = false

-- a part, where the test holds
abbrev pub part_if : Bool → SeenPart → List SeenPart
part_if b p = if b then p ∷ [] else []

abbrev pub told_part : View → SeenPart → List SeenPart
told_part v p = part_if (tells_in v p) p

-- the parts of one thing in a group: its bytes, its entries, the node, or all others
abbrev pub parts_in : Group → View → Name → List SeenPart
parts_in group.Bytes v n = part_if (has_bytes (body_at v n)) (seen.Body n)
parts_in group.Entries v n = part_if (has_entries (body_at v n)) (seen.Body n)
parts_in group.Nodes v n = part_if (is_node (row_at v.rows n).attributes) (seen.Attributes n)
parts_in group.Rest v n =
    told_part v (seen.Empty n) ++ (told_part v (seen.Ends n) ++ (told_part v (seen.Open n) ++ (told_part v (seen.Options n)
    ++ (told_part v (seen.Text n) ++ (told_part v (seen.Users n) ++ told_part v (seen.Total n))))))

-- the same at a place of a list of rows
abbrev pub parts_at : Group → View → Option (Name × Row) → List SeenPart
parts_at g v None = []
parts_at g v (Some e) = parts_in g v e.0

-- the parts of these things in a group
abbrev pub parts_of : Group → View → List (Name × Row) → List SeenPart
parts_of g v [] = []
parts_of g v (e ∷ es) = parts_in g v e.0 ++ parts_of g v es

-- all others, if they are wanted
abbrev pub rest_of : Bool → View → List SeenPart
rest_of every v = if every then parts_of group.Rest v v.rows else []

-- the parts that are listed: bytes, entries, nodes, and all others if they are wanted
abbrev pub listed : Bool → View → List SeenPart
listed every v = parts_of group.Bytes v v.rows ++ (parts_of group.Entries v v.rows ++ (parts_of group.Nodes v v.rows ++ rest_of every v))

-- those of these parts for which the test holds
abbrev pub kept_if : (SeenPart → Bool) → List SeenPart → List SeenPart
kept_if test [] = []
kept_if test (p ∷ ps) = part_if (test p) p ++ kept_if test ps

-- some tasks don't see a part
abbrev pub Unseen : World → List TaskId → SeenPart → Type 0
Unseen w who p = Sees (among who) w (part_of p) → ⊥
