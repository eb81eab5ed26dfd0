-- Two things that are seen are at two places.
use Rattle.std.proofs.Common.{◌≡◌, inl, inr, ◌∙◌, refl, sym, ap, Bool, true, false, true≢false, List, ◌++◌, Some, if◌then◌else◌, is_some, codes}
use Rattle.hurd_creds.specs.declared.name.Name.{Name}
use Rattle.hurd_creds.specs.declared.name.TaskId.{TaskId}
use Rattle.hurd_nodes.specs.Shown.{ServerInfo}
use Rattle.hurd_machine.specs.Sight.{Knows, holders}
use Rattle.hurd_machine.specs.Sound.{Sound}
use Rattle.hurd_machine.specs.World.{World, open_at, server_at}
use Rattle.hurd_sight.specs.Found.{is_found}
use Rattle.hurd_sight.specs.Parts.{is_in}
use Rattle.hurd_sight.specs.Reach.{among}
use Rattle.hurd_views.specs.Views.{node_row, row_of, told_if}
use Rattle.hurd_views.specs.declared.rows.OpenRow.{OpenRow}
use Rattle.hurd_views.specs.declared.rows.Row.{Row}
use Rattle.hurd_views.specs.declared.view.View.{View}
use Rattle.hurd_places.specs.Places.{names_tasks, node_path, node_place, open_place, place_by, place_of, beside, server_at as placed_at, server_path}
use Rattle.hurd_places.specs.Differ.{IsShown, IsView, PlacesDiffer}
use Rattle.hurd_places.proofs.KindLaws.{no_label, node_no_server}
use Rattle.hurd_places.proofs.PathsDiffer.{node_places_differ, open_called, open_places_differ}
use Rattle.hurd_places.proofs.SeenFacts.{row_is}
use Rattle.hurd_places.proofs.ServersDiffer.{placed, server_paths_differ}

abbrev There : List TaskId → World → Name → Type 0
There tasks w s = (i : ServerInfo) × (server_at w s ≡ Some i) × Knows (among tasks) w s

-- which kind of thing a name is shown as
data Kind (tasks : List TaskId) (w : World) (v : View) (n : Name) : Type 0 where
  ANode : is_found n v.sight.found ≡ true → place_of v n ≡ node_place v n → Kind tasks w v n
  AnOpen : is_in n v.sight.rights.opens ≡ true → place_of v n ≡ open_place v n → Kind tasks w v n
  AServer : There tasks w n → place_of v n ≡ server_path v n → Kind tasks w v n

abbrev open_row : World → Name → OpenRow
open_row w n = record { opened = open_at w n; holders = holders w n }

told_some : {X : Type 0} (b : Bool) (x : X) → is_some (told_if b x) ≡ b
told_some true x = refl
told_some false x = refl

place_is : (tasks : List TaskId) (w : World) (v : View) (n : Name) → IsView tasks w v
    → place_of v n ≡ (if is_found n v.sight.found then node_place v n else if is_in n v.sight.rights.opens then open_place v n else server_path v n)
place_is tasks w v n is_view =
    ap (λ (r : Row). place_by v n r) (row_is tasks w v n is_view.views)
    ∙ (ap (λ (b : Bool). if b then node_place v n else if is_some (row_of w v.sight n).opened then open_place v n else server_path v n) (told_some (is_found n v.sight.found) (node_row w n))
    ∙ ap (λ (b : Bool). if is_found n v.sight.found then node_place v n else if b then open_place v n else server_path v n)
    (told_some (is_in n v.sight.rights.opens) (open_row w n)))

kind_of : (tasks : List TaskId) (w : World) (v : View) (n : Name) → IsView tasks w v → IsShown tasks w v n → Kind tasks w v n
kind_of tasks w v n is_view shown = go (is_found n v.sight.found) (is_in n v.sight.rights.opens) refl refl shown (place_is tasks w v n is_view)
  where
    go : (a b : Bool) → is_found n v.sight.found ≡ a → is_in n v.sight.rights.opens ≡ b → IsShown tasks w v n
        → place_of v n ≡ (if a then node_place v n else if b then open_place v n else server_path v n) → Kind tasks w v n
    go true b found opened shown is = ANode found is
    go false true found opened shown is = AnOpen opened is
    go false false found opened (inl node) is = absurd (true≢false (sym node ∙ found))
    go false false found opened (inr (inl open_name)) is = absurd (true≢false (sym open_name ∙ opened))
    go false false found opened (inr (inr server)) is = AServer server is

server_text : (tasks : List TaskId) (w : World) (v : View) (s : Name) → Sound w → IsView tasks w v → There tasks w s → (n : Name) × (server_path v s ≡ node_path v n ++ codes " (server)")
server_text tasks w v s sound is_view (i, there, knows) = let p = placed tasks w v s i sound is_view.views there knows in (p.node, ap (placed_at v) p.is)

pub places_differ : PlacesDiffer
places_differ tasks w v n m sound is_view shown_n shown_m is = go n m (kind_of tasks w v n is_view shown_n) (kind_of tasks w v m is_view shown_m) is
  where
    open_node : (o q : Name) → is_in o v.sight.rights.opens ≡ true → open_place v o ≡ node_place v q → ⊥
    open_node o q seen same = let l = open_called tasks w v o is_view seen in no_label v q (names_tasks v) l.0 (beside v q) (sym l.1 ∙ same)

    open_server : (o s : Name) → is_in o v.sight.rights.opens ≡ true → There tasks w s → open_place v o ≡ server_path v s → ⊥
    open_server o s seen there same =
        let l = open_called tasks w v o is_view seen in
        let t = server_text tasks w v s sound is_view there in no_label v t.0 (names_tasks v) l.0 (codes " (server)") (sym l.1 ∙ (same ∙ t.1))

    node_server : (q s : Name) → There tasks w s → node_place v q ≡ server_path v s → ⊥
    node_server q s there same = let t = server_text tasks w v s sound is_view there in node_no_server v q t.0 (same ∙ t.1)

    go : (x y : Name) → Kind tasks w v x → Kind tasks w v y → place_of v x ≡ place_of v y → x ≡ y
    go x y (ANode a p) (ANode b q) is = node_places_differ tasks w v x y is_view a b (sym p ∙ (is ∙ q))
    go x y (ANode a p) (AnOpen b q) is = absurd (open_node y x b (sym q ∙ (sym is ∙ p)))
    go x y (ANode a p) (AServer b q) is = absurd (node_server x y b (sym p ∙ (is ∙ q)))
    go x y (AnOpen a p) (ANode b q) is = absurd (open_node x y a (sym p ∙ (is ∙ q)))
    go x y (AnOpen a p) (AnOpen b q) is = open_places_differ tasks w v x y is_view a b (sym p ∙ (is ∙ q))
    go x y (AnOpen a p) (AServer b q) is = absurd (open_server x y a b (sym p ∙ (is ∙ q)))
    go x y (AServer a p) (ANode b q) is = absurd (node_server y x a (sym q ∙ (sym is ∙ p)))
    go x y (AServer a p) (AnOpen b q) is = absurd (open_server y x b a (sym q ∙ (sym is ∙ p)))
    go x y (AServer a p) (AServer b q) is = server_paths_differ tasks w v x y a.0 b.0 sound is_view a.1 b.1 a.2 b.2 (sym p ∙ (is ∙ q))
