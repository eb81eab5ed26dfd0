-- How the places of things are told apart.
use Rattle.std.specs.Prelude.{◌≡◌, ◌⊎◌, ◌<◌, ◌^◌, true, List, length, Option, Some}
use Rattle.std.specs.List.{list_all}
use Rattle.hurd_creds.specs.declared.name.Name.{Name}
use Rattle.hurd_creds.specs.declared.name.TaskId.{TaskId}
use Rattle.hurd_nodes.specs.Shown.{ServerInfo}
use Rattle.hurd_machine.specs.Sight.{Knows}
use Rattle.hurd_machine.specs.Sound.{Sound}
use Rattle.hurd_machine.specs.World.{World, ports_of, server_at}
use Rattle.hurd_ports.specs.Sound.{IsSound}
use Rattle.hurd_words.specs.Sentences.{is_fit}
use Rattle.hurd_sight.specs.Found.{is_found}
use Rattle.hurd_sight.specs.Parts.{is_in}
use Rattle.hurd_sight.specs.Reach.{among}
use Rattle.hurd_views.specs.Views.{Views}
use Rattle.hurd_views.specs.declared.rows.Row.{Row}
use Rattle.hurd_views.specs.declared.view.View.{View}
use Rattle.hurd_places.specs.Places.{label_of, node_path, node_place, open_place, place_by, place_of, server_path, targets_of}
use Rattle.hurd_places.specs.declared.labels.Label.{Label}
use Rattle.hurd_places.specs.declared.labels.Wanted.{Wanted}

-- each place is of bytes that may stand in a part of a sentence
abbrev pub PlacesFit : Type 0
PlacesFit =
    (v : View) (n : Name) (r : Row) → (list_all is_fit (place_by v n r) ≡ true) × (list_all is_fit (node_path v n) ≡ true) × (list_all is_fit (server_path v n) ≡ true)

-- nodes, targets of a server, and the numbers of labels are such as memory can hold
pub record IsSmall (v : View) : Type 0 where
  pub found : length v.sight.found < 2 ^ 63
  pub targets : (s : Option Name) → length (targets_of v s) < 2 ^ 62
  pub labels : (q : Wanted) (l : Label) → label_of v q ≡ Some l → (l.task.0 < 2 ^ 64) × (l.number < 2 ^ 64)

-- a view of some tasks of a world with sound tables of ports
pub record IsView (tasks : List TaskId) (w : World) (v : View) : Type 0 where
  pub views : Views tasks w v
  pub tables : IsSound (ports_of w)
  pub small : IsSmall v

-- two nodes that some tasks see have two paths
abbrev pub PathsDiffer : Type 0
PathsDiffer =
    (tasks : List TaskId) (w : World) (v : View) (n m : Name) → IsView tasks w v → is_found n v.sight.found ≡ true → is_found m v.sight.found ≡ true → node_path v n ≡ node_path v m
    → n ≡ m

-- and two places
abbrev pub NodePlacesDiffer : Type 0
NodePlacesDiffer =
    (tasks : List TaskId) (w : World) (v : View) (n m : Name) → IsView tasks w v → is_found n v.sight.found ≡ true → is_found m v.sight.found ≡ true → node_place v n ≡ node_place v m
    → n ≡ m

-- two opens that some tasks have are at two places
abbrev pub OpenPlacesDiffer : Type 0
OpenPlacesDiffer =
    (tasks : List TaskId) (w : World) (v : View) (o p : Name) → IsView tasks w v → is_in o v.sight.rights.opens ≡ true → is_in p v.sight.rights.opens ≡ true
    → open_place v o ≡ open_place v p → o ≡ p

-- two servers that are there, and that some tasks know, have two paths
abbrev pub ServerPathsDiffer : Type 0
ServerPathsDiffer =
    (tasks : List TaskId) (w : World) (v : View) (s t : Name) (i j : ServerInfo) → Sound w → IsView tasks w v → server_at w s ≡ Some i → server_at w t ≡ Some j
    → Knows (among tasks) w s → Knows (among tasks) w t → server_path v s ≡ server_path v t → s ≡ t

-- a name is shown as a node that is seen, as an open that some right has, or as a server that is there and known
abbrev pub IsShown : List TaskId → World → View → Name → Type 0
IsShown tasks w v n =
    (is_found n v.sight.found ≡ true) ⊎ ((is_in n v.sight.rights.opens ≡ true) ⊎ ((i : ServerInfo) × (server_at w n ≡ Some i) × Knows (among tasks) w n))

-- two things that are shown are at two places
abbrev pub PlacesDiffer : Type 0
PlacesDiffer =
    (tasks : List TaskId) (w : World) (v : View) (n m : Name) → Sound w → IsView tasks w v → IsShown tasks w v n → IsShown tasks w v m → place_of v n ≡ place_of v m → n ≡ m
