-- Two servers that are seen have two paths.
use Rattle.std.proofs.Common.{◌≡◌, ◌∙◌, refl, sym, ap, ◌||◌, Bool, true, false, true≢false, List, [], ◌∷◌, Option, Some, None, if◌then◌else◌, codes}
use Rattle.std.specs.Option.{option_or}
use Rattle.std.proofs.lemmas.List.{append_cancel_right}
use Rattle.hurd_creds.specs.declared.name.Name.{Name}
use Rattle.hurd_creds.specs.declared.name.TaskId.{TaskId}
use Rattle.hurd_creds.specs.Names.{same_name}
use Rattle.hurd_creds.proofs.NameLaws.{equal_if_same, same_name-itself}
use Rattle.hurd_nodes.specs.Shown.{ServerInfo}
use Rattle.hurd_machine.specs.Sight.{Active, Controlled, Knows, OfControl, OfNode, OfSeat}
use Rattle.hurd_machine.specs.Sound.{Sound}
use Rattle.hurd_machine.specs.World.{World, home_at, server_at}
use Rattle.hurd_sight.specs.Found.{is_found}
use Rattle.hurd_sight.specs.Reach.{among}
use Rattle.hurd_sight.specs.declared.found.Why.{Why}
use Rattle.hurd_views.specs.Views.{Views}
use Rattle.hurd_views.specs.declared.view.View.{View}
use Rattle.hurd_places.specs.Places.{bound_to, first_bound, is_server, node_path, server_at as placed_at, server_node}
use Rattle.hurd_places.specs.Differ.{ServerPathsDiffer}
use Rattle.hurd_places.specs.declared.servers.Bond.{Bond}
use Rattle.hurd_places.specs.declared.servers.Bond.TheVariants as bond
use Rattle.hurd_places.proofs.PathsDiffer.{paths_differ}
use Rattle.hurd_places.proofs.SeenFacts.{some_once}
use Rattle.hurd_places.proofs.TargetLaws.{home_seen}

-- the first node that is bound to a server

first_is : (v : View) (b : Bond) (s n : Name) (es : List (Name × Why)) → first_bound v b s es ≡ Some n → (is_found n es ≡ true) × (is_server s (bound_to v b n) ≡ true)
first_is v b s n [] is = absurd (cc)
first_is v b s n ((m, y) ∷ es) is = go (first_is v b s n es) (is_server s (bound_to v b m)) refl is
  where
    later : (t : Bool) → is_found n es ≡ true → (t || is_found n es) ≡ true
    later true found = refl
    later false found = found

    go : (first_bound v b s es ≡ Some n → (is_found n es ≡ true) × (is_server s (bound_to v b n) ≡ true)) → (t : Bool) → is_server s (bound_to v b m) ≡ t
        → (if t then Some m else first_bound v b s es) ≡ Some n → ((same_name n m || is_found n es) ≡ true) × (is_server s (bound_to v b n) ≡ true)
    go rest true bound is =
        let same : m ≡ n = some_once m n is in
        (ap (λ (t : Bool). t || is_found n es) (ap (same_name n) same ∙ same_name-itself n), ap (λ (q : Name). is_server s (bound_to v b q)) (sym same) ∙ bound)
    go rest false bound is = let both = rest is in (later (same_name n m) both.0, both.1)

first_there : (v : View) (b : Bond) (s n : Name) (es : List (Name × Why)) → is_found n es ≡ true → is_server s (bound_to v b n) ≡ true → (m : Name) × (first_bound v b s es ≡ Some m)
first_there v b s n [] found bound = absurd (true≢false (sym found))
first_there v b s n ((m, y) ∷ es) found bound = go (λ later. first_there v b s n es later bound) (is_server s (bound_to v b m)) refl (same_name n m) refl found
  where
    go : (is_found n es ≡ true → (q : Name) × (first_bound v b s es ≡ Some q)) → (t : Bool) → is_server s (bound_to v b m) ≡ t → (u : Bool) → same_name n m ≡ u → (u || is_found n es) ≡ true
        → (q : Name) × ((if t then Some m else first_bound v b s es) ≡ Some q)
    go rest true is u same found = (m, refl)
    go rest false is true same found = absurd (true≢false (sym (ap (λ (q : Name). is_server s (bound_to v b q)) (sym (equal_if_same n m same)) ∙ bound) ∙ is))
    go rest false is false same found = rest found

-- a server that is known has a node that is seen

home_found : (tasks : List TaskId) (w : World) (v : View) (s : Name) (i : ServerInfo) → Sound w → Views tasks w v → server_at w s ≡ Some i → Knows (among tasks) w s
    → (n : Name) × (is_found n v.sight.found ≡ true) × (home_at w n ≡ Some s)
home_found tasks w v s i sound views there (OfNode n seen home) = (n, (views.looks.found.exact n).1 seen, home)
home_found tasks w v s i sound views there (OfSeat n seen active) =
    (i.root, (views.looks.found.exact i.root).1 (Active n s i seen active there refl), sound.coherent.housing.roots s i there)
home_found tasks w v s i sound views there (OfControl holds) = (i.root, (views.looks.found.exact i.root).1 (Controlled s i holds there refl), sound.coherent.housing.roots s i there)

pub record Placed (w : World) (v : View) (s : Name) : Type 0 where
  pub node : Name
  pub is : server_node v s ≡ Some node
  pub found : is_found node v.sight.found ≡ true
  pub home : home_at w node ≡ Some s

is_that : (s : Name) (o : Option Name) → is_server s o ≡ true → o ≡ Some s
is_that s None is = absurd (true≢false (sym is))
is_that s (Some q) is = ap (λ (x : Name). Some x) (sym (equal_if_same s q is))

pub placed : (tasks : List TaskId) (w : World) (v : View) (s : Name) (i : ServerInfo) → Sound w → Views tasks w v → server_at w s ≡ Some i → Knows (among tasks) w s → Placed w v s
placed tasks w v s i sound views there knows =
    let at = home_found tasks w v s i sound views there knows in
    let bound = ap (is_server s) (home_seen tasks w v at.0 views at.1 ∙ at.2) ∙ same_name-itself s in
    let first = first_there v bond.Home s at.0 v.sight.found at.1 bound in
    let is = first_is v bond.Home s first.0 v.sight.found first.1 in
    record {
      node = first.0;
      is = ap (λ (o : Option Name). option_or o (first_bound v bond.Active s v.sight.found)) first.1;
      found = is.0;
      home = sym (home_seen tasks w v first.0 views is.0) ∙ is_that s (bound_to v bond.Home first.0) is.1;
    }

pub server_paths_differ : ServerPathsDiffer
server_paths_differ tasks w v s t i j sound is_view there_s there_t knows_s knows_t is =
    let a = placed tasks w v s i sound is_view.views there_s knows_s in
    let b = placed tasks w v t j sound is_view.views there_t knows_t in
    let paths = append_cancel_right (node_path v a.node) (node_path v b.node) (codes " (server)") (sym (ap (placed_at v) a.is) ∙ (is ∙ ap (placed_at v) b.is)) in
    let same = paths_differ tasks w v a.node b.node is_view a.found b.found paths in
    some_once s t (sym a.home ∙ (ap (home_at w) same ∙ b.home))
