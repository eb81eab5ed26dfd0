-- Some tasks have one view of a world.
use Rattle.std.proofs.Common.{◌≡◌, ◌∙◌, sym, refl, ap, subst, ℕ, Bool, List, [], ◌∷◌, ◌++◌, map}
use Rattle.hurd_machine.proofs.Common.{IdSets, Name, TaskId, World, nat_cmp-IsAntisymmetric, nat_cmp_total}
use Rattle.std.specs.FinSet as set
use Rattle.hurd_machine.specs.World.{nodes_of}
use Rattle.hurd_sight.specs.Found.{FoundAll}
use Rattle.hurd_sight.specs.Looks.{sees_with}
use Rattle.hurd_sight.specs.Parts.{known_at, named, no_names, of_found, rights_held, with_rights}
use Rattle.hurd_sight.specs.Reach.{Reaches, among}
use Rattle.hurd_sight.specs.declared.found.Why.{Why}
use Rattle.hurd_sight.specs.declared.parts.SeenPart.{SeenPart}
use Rattle.hurd_sight.specs.declared.parts.SeenPart.TheVariants as seen
use Rattle.hurd_sight.proofs.FollowLaws.{found_is_one}
use Rattle.hurd_sight.proofs.PartLaws.{parts_are_seen}
use Rattle.hurd_sight.proofs.ReachLaws.{one_test}
use Rattle.hurd_views.specs.Views.{ViewsAreOne, Views, names_found, names_seen, row_of, rows_for}
use Rattle.hurd_views.specs.declared.rows.Row.{Row}
use Rattle.hurd_views.specs.declared.view.View.{View}
use Rattle.hurd_views.proofs.ViewLaws.{row_from, told_same}

-- all ids that a set of tasks can act with are one pair of sets
reach_is_one : (S : ℕ → Bool) (w : World) (ids other : IdSets) → Reaches S w ids → Reaches S w other → ids ≡ other
reach_is_one S w ids other x y = λ i. record { uids = uids i; gids = gids i }
  where
    uids : ids.uids ≡ other.uids
    uids = set.same_set nat_cmp_total nat_cmp-IsAntisymmetric ids.uids other.uids (λ u. one_test _ _ (x.uids u) (y.uids u))

    gids : ids.gids ≡ other.gids
    gids = set.same_set nat_cmp_total nat_cmp-IsAntisymmetric ids.gids other.gids (λ g. one_test _ _ (x.gids g) (y.gids g))

-- the same of each name
pub map_same : {X Y : Type 0} (f g : X → Y) (xs : List X) → ((x : X) → f x ≡ g x) → map f xs ≡ map g xs
map_same f g [] same = λ i. []
map_same f g (x ∷ xs) same = λ i. same x i ∷ map_same f g xs same i

module _ (tasks : List TaskId) (w : World) (a b : View) (in_a : Views tasks w a) (in_b : Views tasks w b) where
  tasks_same : a.sight.tasks.items ≡ b.sight.tasks.items
  tasks_same = in_a.ours ∙ sym in_b.ours

  reach_same : a.sight.reach ≡ b.sight.reach
  reach_same = reach_is_one (among tasks) w a.sight.reach b.sight.reach in_a.looks.reach in_b.looks.reach

  found_same : a.sight.found ≡ b.sight.found
  found_same =
      found_is_one (nodes_of w) w.tasks b.sight.reach b.sight.tasks.items a.sight.found b.sight.found
      (subst (λ (ids : IdSets). FoundAll (nodes_of w) w.tasks ids b.sight.tasks.items a.sight.found) reach_same
      (subst (λ (ts : List TaskId). FoundAll (nodes_of w) w.tasks a.sight.reach ts a.sight.found) tasks_same in_a.gathered.found))
      in_b.gathered.found

  rights_same : a.sight.rights ≡ b.sight.rights
  rights_same = in_a.gathered.rights ∙ (ap (λ (ts : List TaskId). with_rights w.opens (rights_held w.tasks ts) no_names) tasks_same ∙ sym in_b.gathered.rights)

  known_same : a.sight.known ≡ b.sight.known
  known_same = in_a.gathered.known ∙ (ap (λ (es : List (Name × Why)). named (of_found (known_at (nodes_of w)) es) []) found_same ∙ sym in_b.gathered.known)

  names_same : names_seen a.sight ≡ names_seen b.sight
  names_same = λ i. named (names_found (found_same i) ++ ((rights_same i).opens ++ (known_same i ++ (rights_same i).controlled))) []

  test : (q : SeenPart) → sees_with (nodes_of w) a.sight q ≡ sees_with (nodes_of w) b.sight q
  test q = one_test _ _ (parts_are_seen (among tasks) w a.sight q in_a.looks) (parts_are_seen (among tasks) w b.sight q in_b.looks)

  row_same : (n : Name) → row_of w a.sight n ≡ row_of w b.sight n
  row_same n =
      row_from
      (told_same _ _ _ _ (test (seen.Attributes n)) (λ on. refl))
      (told_same _ _ _ _ (test (seen.Empty n)) (λ on. refl))
      (told_same _ _ _ _ (test (seen.Body n)) (λ on. refl))
      (told_same _ _ _ _ (test (seen.Ends n)) (λ on. refl))
      (told_same _ _ _ _ (test (seen.Open n)) (λ on. refl))
      (told_same _ _ _ _ (test (seen.Options n)) (λ on. refl))
      (told_same _ _ _ _ (test (seen.Text n)) (λ on. refl))
      (told_same _ _ _ _ (test (seen.Users n)) (λ on. refl))
      (told_same _ _ _ _ (test (seen.Total n)) (λ on. refl))

  rows_same : a.rows ≡ b.rows
  rows_same =
      in_a.rows
      ∙ (map_same (λ (n : Name). (n, row_of w a.sight n)) (λ (n : Name). (n, row_of w b.sight n)) (names_seen a.sight) (λ n. ap (λ (r : Row). (n, r)) (row_same n))
      ∙ (ap (rows_for w b.sight) names_same ∙ sym in_b.rows))

pub views_are_one : ViewsAreOne
views_are_one tasks w a b in_a in_b = record {
  found = found_same tasks w a b in_a in_b;
  rows = rows_same tasks w a b in_a in_b;
  seats = in_a.seats ∙ sym in_b.seats;
  count = in_a.count ∙ sym in_b.count;
}
