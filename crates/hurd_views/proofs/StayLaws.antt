-- A view stays the view of its tasks while nothing that they see changes.
use Rattle.std.proofs.Common.{◌≡◌, ◌∙◌, inl, inr, sym, refl, ap, ap₂, subst, ℕ, suc, Bool, true, false, List, [], ◌∷◌, ◌++◌, take, if◌then◌else◌}
use Rattle.std.specs.Prelude.{Option, Some, None, option_and_then, slice_get}
use Rattle.std.specs.Option.{option_map}
use Rattle.std.proofs.lemmas.Bool.{and_parts}
use Rattle.hurd_machine.proofs.Common.{AttrOf, BodyOf, Control, Exec, Header, Holds, IdSets, Io, IsAmong, Knows, Name, OfControl, OfNode, OfSeat, OpenOf, Opened, READ, Right, Seen, Sees, ServerInfo, Start, Task, TaskId, ToSearch, WRITE, World, active_at, bare, faced, flat_map, header_at, home_at, is_dir, rights_of, server_at, with_text}
use Rattle.hurd_machine.proofs.Faces.{face_reads, of_face}
use Rattle.hurd_machine.proofs.Listed.{dir_kind}
use Rattle.hurd_machine.proofs.Views.{Agree, Agree-sym, HasGid-kept, HasUid-kept, Holds-kept, Sees-back, Sees-kept, active_same, agree_of, body_same, face_known, header_same, home_same, open_same, same_tasks}
use Rattle.hurd_machine.specs.World.{boot_root, nodes_of}
use Rattle.hurd_trans_iface.specs.Nodes.{Body, body_of}
use Rattle.hurd_trans_iface.specs.Answers.{names_of}
use Rattle.hurd_sight.specs.Found.{AllThatFollows, FoundAll, all_of, gathered, is_found, names_told, of_active, of_children, of_entry, of_node, of_nodes, of_parent, of_plain, of_right, of_server, of_target, of_targets, of_task, of_tasks, parent_in, root_of, root_served, searched_by, served_root, targets_of, with_why}
use Rattle.hurd_sight.specs.Looks.{Gathered, Looks}
use Rattle.hurd_sight.specs.Parts.{HasFor, KnownByNode, SentByNode, is_for, known_at, maybe_named, named, no_names, node_for, of_found, rights_at, rights_held, with_right, with_rights}
use Rattle.hurd_sight.specs.Reach.{Reaches, among, could_with}
use Rattle.hurd_sight.specs.declared.found.Why.{Why}
use Rattle.hurd_sight.specs.declared.found.Why.TheVariants as why
use Rattle.hurd_sight.specs.declared.held.RightNames.{RightNames}
use Rattle.hurd_sight.proofs.CouldLaws.{could_is_enough}
use Rattle.hurd_sight.proofs.FollowLaws.{plain_grown}
use Rattle.hurd_sight.proofs.FoundLaws.{Entries, among_found, among_there, flat_among, found_left, taken_among, tested}
use Rattle.hurd_sight.proofs.PartLaws.{both_ways}
use Rattle.hurd_sight.proofs.ReachLaws.{ours}
use Rattle.hurd_sight.proofs.SightLaws.{found_is_seen}
use Rattle.hurd_views.specs.Views.{Views, ViewsStay, names_seen, row_of, rows_for}
use Rattle.hurd_views.specs.declared.rows.Row.{Row}
use Rattle.hurd_views.specs.declared.view.View.{View}
use Rattle.hurd_views.proofs.OneView.{map_same}
use Rattle.hurd_views.proofs.ViewLaws.{row_same, seats_same}

-- of each of a list the same
flat_same : {X Y : Type 0} (f g : X → List Y) (xs : List X) → ((x : X) → IsAmong x xs → f x ≡ g x) → flat_map f xs ≡ flat_map g xs
flat_same f g [] same = refl
flat_same f g (x ∷ xs) same = ap₂ (λ (ys zs : List _). ys ++ zs) (same x (inl refl)) (flat_same f g xs (λ y later. same y (inr later)))

-- of what is named, if anything is, the same
then_same : {B : Type 0} (f g : Name → Option B) (o : Option Name) → ((n : Name) → o ≡ Some n → f n ≡ g n) → option_and_then f o ≡ option_and_then g o
then_same f g None same = refl
then_same f g (Some n) same = same n refl

-- what follows of some nodes, where each shows the same
follows_same : (f g : Name → Entries) (start es : Entries) → ((n : Name) → is_found n es ≡ true → f n ≡ g n) → AllThatFollows f start es → AllThatFollows g start es
follows_same f g start es same it = record {
  all = it.all ∙ ap (λ (gs : Entries). gathered gs start) (shown es (λ e here. here));
  next = λ k. it.next k ∙ ap (λ (gs : Entries). take (suc k) (gathered gs start)) (shown (take k es) (λ e here. taken_among e k es here));
}
  where
    shown : (xs : Entries) → ((e : Name × Why) → IsAmong e xs → IsAmong e es) → of_nodes f xs ≡ of_nodes g xs
    shown xs within = flat_same (λ (e : Name × Why). f e.0) (λ (e : Name × Why). g e.0) xs (λ e here. same e.0 (among_found e es (within e here)))

-- what a set of tasks has and knows in one world, it has and knows in another where it sees the same

module _ {S : ℕ → Bool} {v w : World} (x : Agree S v w) where
  holds_kept : (r : Right) → Holds S v r → Holds S w r
  holds_kept = Holds-kept v w (same_tasks x)

  has_for_kept : (mode : ℕ) (n : Name) → HasFor mode S v n → HasFor mode S w n
  has_for_kept mode n h = (h.0, h.1, holds_kept (Io h.0) h.2, h.3, open_same x h.0 h.2 ∙ h.4, h.5)

  known_kept : (s : Name) → KnownByNode S v s → KnownByNode S w s
  known_kept s k = (
    k.0,
    Sees-kept x (AttrOf k.0) k.1,
    elim k.2 [ inl home ↦ inl (home_same x k.0 k.1 ∙ home) | inr active ↦ inr (active_same x k.0 k.1 ∙ active) ],
  )

  sent_kept : (s : Name) → SentByNode S v s → SentByNode S w s
  sent_kept s k = (
    k.0,
    Sees-kept x (AttrOf k.0) k.1,
    elim k.2 [
      | inl served ↦
          let it = of_face served.0 (server_at w s) (face_known x s (OfNode k.0 k.1 served.1) ∙ ap (option_map faced) served.2) in
          inl (with_text it.0 served.0, home_same x k.0 k.1 ∙ served.1, it.1, (served.3.0, HasUid-kept v w (same_tasks x) served.3.0 served.3.1, served.3.2))
      | inr owned ↦ inr (
        owned.0,
        active_same x k.0 k.1 ∙ owned.1,
        header_same x k.0 k.1 ∙ owned.2,
        (owned.3.0, HasUid-kept v w (same_tasks x) owned.3.0 owned.3.1, owned.3.2),
      )
    ],
  )

  -- what is read of a server that is known, except for its text, is the same
  read_known : {P : Type 0} (read : Option ServerInfo → P) → ((i : ServerInfo) → read (Some (faced i)) ≡ read (Some i)) → (s : Name) → Knows S v s → read (server_at w s) ≡ read (server_at v s)
  read_known read blind s knows = face_reads read blind (server_at v s) (server_at w s) (face_known x s knows)

  root_same : (s : Name) → Knows S v s → root_of (nodes_of w) s ≡ root_of (nodes_of v) s
  root_same = read_known (option_map (λ (i : ServerInfo). i.root)) (λ i. refl)

  targets_same : (o : Option Name) → ((s : Name) → o ≡ Some s → Knows S v s) → targets_of (nodes_of w) o ≡ targets_of (nodes_of v) o
  targets_same None knows = refl
  targets_same (Some s) knows = read_known (λ (p : Option ServerInfo). all_of (option_map (λ (i : ServerInfo). i.targets) p)) (λ i. refl) s (knows s refl)

  -- rights that are held show the same, and name the same

  right_same : (q : Right) → Holds S v q → of_right (nodes_of w) q ≡ of_right (nodes_of v) q
  right_same (Io r) has = refl
  right_same (Control s) has = ap (λ (o : Option Name). with_why o why.Controlled) (root_same s (OfControl has))
  right_same (Start n) has = refl

  opened_same : (mode : ℕ) (q : Right) → Holds S v q → node_for mode w.opens q ≡ node_for mode v.opens q
  opened_same mode (Io r) has = ap (λ (o : Option Opened). if is_for mode o then r.node ∷ [] else []) (open_same x r has)
  opened_same mode (Control s) has = refl
  opened_same mode (Start n) has = refl

  with_same : (qs : List Right) → ((q : Right) → IsAmong q qs → Holds S v q) → (names : RightNames) → with_rights w.opens qs names ≡ with_rights v.opens qs names
  with_same [] held names = refl
  with_same (q ∷ qs) held names =
      ap (with_rights w.opens qs) one ∙ with_same qs (λ r later. held r (inr later)) (with_right v.opens q names)
    where
      one : with_right w.opens q names ≡ with_right v.opens q names
      one =
          let reads = opened_same READ q (held q (inl refl)) in
          let writes = opened_same WRITE q (held q (inl refl)) in
          rw (reads, writes) refl

  -- a node that is seen shows the same

  module _ (m : Name) (s : Seen S v m) where
    known_at_same : known_at (nodes_of w) m ≡ known_at (nodes_of v) m
    known_at_same = ap₂ (λ (home active : Option Name). maybe_named home ++ maybe_named active) (home_same x m s) (active_same x m s)

    parent_same : of_parent (nodes_of w) m ≡ of_parent (nodes_of v) m
    parent_same = ap (λ (o : Option Header). with_why (parent_in o) (why.Parent m)) (header_same x m s)

    active_shown : of_active (nodes_of w) m ≡ of_active (nodes_of v) m
    active_shown = ap (λ (o : Option Name). with_why o (why.Active m)) (
        ap (option_and_then (root_of (nodes_of w))) (active_same x m s)
        ∙ then_same (root_of (nodes_of w)) (root_of (nodes_of v)) (active_at v m) (λ q is. root_same q (OfSeat m s is)))

    targets_shown : of_targets (nodes_of w) m ≡ of_targets (nodes_of v) m
    targets_shown = ap₂ (λ (ns ms : List Name). flat_map (of_target m) ns ++ flat_map (of_target m) ms)
        (ap (targets_of (nodes_of w)) (home_same x m s) ∙ targets_same (home_at v m) (λ q is. OfNode m s is))
        (ap (targets_of (nodes_of w)) (active_same x m s) ∙ targets_same (active_at v m) (λ q is. OfSeat m s is))

    module _ (ids : IdSets) (reach : Reaches S v ids) where
      served_same : (q : Name) → Knows S v q → served_root (nodes_of w) ids q ≡ served_root (nodes_of v) ids q
      served_same = read_known (option_and_then (root_served ids)) (λ i. refl)

      server_shown : of_server (nodes_of w) ids m ≡ of_server (nodes_of v) ids m
      server_shown = ap (λ (o : Option Name). with_why o (why.ServerRoot m)) (
          ap (option_and_then (served_root (nodes_of w) ids)) (home_same x m s)
          ∙ then_same (served_root (nodes_of w) ids) (served_root (nodes_of v) ids) (home_at v m) (λ q is. served_same q (OfNode m s is)))

      -- the entries of a directory that could be searched are seen
      searched : searched_by ids (header_at v m) ≡ true → Sees S v (BodyOf m)
      searched is =
          let h = tested (searched_by ids) refl (header_at v m) is in
          let both = and_parts (is_dir h.0.kind) (could_with ids (bare h.0) Exec) h.2 in
          (s, h.0, h.1, ToSearch (dir_kind h.0.kind both.0) ((could_is_enough S v ids h.0 Exec reach).0 both.1))

      abbrev listed : Option Body → Entries
      listed b = flat_map (of_entry m b) (names_told (names_of b))

      children_same : of_children (nodes_of w) ids m ≡ of_children (nodes_of v) ids m
      children_same =
          ap (λ (o : Option Header). if searched_by ids o then listed (body_of w.nodes m) else []) (header_same x m s)
          ∙ go (searched_by ids (header_at v m)) refl
        where
          go : (b : Bool) → searched_by ids (header_at v m) ≡ b → (if b then listed (body_of w.nodes m) else []) ≡ (if b then listed (body_of v.nodes m) else [])
          go true is = ap listed (body_same x m (searched is))
          go false is = refl

      node_same : of_node (nodes_of w) ids m ≡ of_node (nodes_of v) ids m
      node_same = λ i. children_same i ++ (parent_same i ++ (active_shown i ++ (server_shown i ++ targets_shown i)))

      plain_same : of_plain (nodes_of w) ids m ≡ of_plain (nodes_of v) ids m
      plain_same = λ i. children_same i ++ active_shown i

  -- the same can be acted with
  reach_kept : (ids : IdSets) → Reaches S v ids → Reaches S w ids
  reach_kept ids r = record {
    uids = λ u. both_ways (r.uids u) (HasUid-kept v w (same_tasks x) u, HasUid-kept w v (same_tasks (Agree-sym x)) u);
    gids = λ g. both_ways (r.gids g) (HasGid-kept v w (same_tasks x) g, HasGid-kept w v (same_tasks (Agree-sym x)) g);
  }

-- what some tasks have and find in two worlds in which they see the same

module _ (tasks : List TaskId) (v w : World) (x : Agree (among tasks) v w) where
  abbrev S : ℕ → Bool
  S = among tasks

  task_same : (t : TaskId) → IsAmong t tasks → slice_get w.tasks t.0 ≡ slice_get v.tasks t.0
  task_same t here = same_tasks x t.0 (ours tasks t here)

  held_by : (t : TaskId) → IsAmong t tasks → (z : Task) → slice_get v.tasks t.0 ≡ Some z → (q : Right) → IsAmong q (rights_of z) → Holds S v q
  held_by t here z is q there = record { task = t.0; ours = ours tasks t here; seat = z; is_task = is; here = there }

  -- what the tasks show

  shown_by : (t : TaskId) → IsAmong t tasks → of_task (nodes_of w) (slice_get w.tasks t.0) ≡ of_task (nodes_of v) (slice_get v.tasks t.0)
  shown_by t here = ap (of_task (nodes_of w)) (task_same t here) ∙ go (slice_get v.tasks t.0) refl
    where
      go : (o : Option Task) → slice_get v.tasks t.0 ≡ o → of_task (nodes_of w) o ≡ of_task (nodes_of v) o
      go None is = refl
      go (Some z) is = flat_same (of_right (nodes_of w)) (of_right (nodes_of v)) (rights_of z) (λ q there. right_same x q (held_by t here z is q there))

  tasks_shown : of_tasks (nodes_of w) w.tasks tasks ≡ of_tasks (nodes_of v) v.tasks tasks
  tasks_shown = flat_same (λ (t : TaskId). of_task (nodes_of w) (slice_get w.tasks t.0)) (λ (t : TaskId). of_task (nodes_of v) (slice_get v.tasks t.0)) tasks shown_by

  -- the rights that they hold

  rights_same : rights_held w.tasks tasks ≡ rights_held v.tasks tasks
  rights_same =
      flat_same (λ (t : TaskId). rights_at (slice_get w.tasks t.0)) (λ (t : TaskId). rights_at (slice_get v.tasks t.0)) tasks
      (λ t here. ap rights_at (task_same t here))

  right_held : (q : Right) → IsAmong q (rights_held v.tasks tasks) → Holds S v q
  right_held q among_all =
      let it = flat_among (λ (t : TaskId). rights_at (slice_get v.tasks t.0)) q tasks among_all in
      let at = among_there rights_at refl (slice_get v.tasks it.0.0) q it.2 in
      held_by it.0 it.1 at.0 at.1 q at.2

  names_same : with_rights w.opens (rights_held w.tasks tasks) no_names ≡ with_rights v.opens (rights_held v.tasks tasks) no_names
  names_same = ap (λ (qs : List Right). with_rights w.opens qs no_names) rights_same ∙ with_same x (rights_held v.tasks tasks) right_held no_names

  module _ (ids : IdSets) (es : Entries) (reach : Reaches S v ids) (all : FoundAll (nodes_of v) v.tasks ids tasks es) where
    seen_of : (n : Name) → is_found n es ≡ true → Seen S v n
    seen_of n found = ((found_is_seen v tasks ids es reach all).exact n).0 found

    plain_seen : (n : Name) → is_found n all.plain ≡ true → Seen S v n
    plain_seen n found =
        let grown = plain_grown (nodes_of v) v.tasks ids tasks es all in
        seen_of n (ap (is_found n) grown.1 ∙ found_left n all.plain grown.0 found)

    found_kept : FoundAll (nodes_of w) w.tasks ids tasks es
    found_kept = record {
      plain = all.plain;
      first =
          follows_same (of_plain (nodes_of v) ids) (of_plain (nodes_of w) ids) ((boot_root, why.Root) ∷ []) all.plain
          (λ n found. sym (plain_same x n (plain_seen n found) ids reach)) all.first;
      follows =
          subst (λ (gs : Entries). AllThatFollows (of_node (nodes_of w) ids) (gathered gs all.plain) es) (sym tasks_shown)
          (follows_same (of_node (nodes_of v) ids) (of_node (nodes_of w) ids) (gathered (of_tasks (nodes_of v) v.tasks tasks) all.plain) es
          (λ n found. sym (node_same x n (seen_of n found) ids reach)) all.follows);
    }

    known_same : named (of_found (known_at (nodes_of v)) es) [] ≡ named (of_found (known_at (nodes_of w)) es) []
    known_same =
        ap (λ (ns : List Name). named ns [])
        (flat_same (λ (e : Name × Why). known_at (nodes_of v) e.0) (λ (e : Name × Why). known_at (nodes_of w) e.0) es
        (λ e here. sym (known_at_same x e.0 (seen_of e.0 (among_found e es here)))))

-- what was seen is seen

module _ (tasks : List TaskId) (v w : World) (a : View) (x : Agree (among tasks) v w) (views : Views tasks v a) where
  abbrev back : Agree (among tasks) w v
  back = Agree-sym x

  all_found : FoundAll (nodes_of v) v.tasks a.sight.reach tasks a.sight.found
  all_found = subst (λ (ts : List TaskId). FoundAll (nodes_of v) v.tasks a.sight.reach ts a.sight.found) views.ours views.gathered.found

  found_again : FoundAll (nodes_of w) w.tasks a.sight.reach tasks a.sight.found
  found_again = found_kept tasks v w x a.sight.reach a.sight.found views.looks.reach all_found

  looks_kept : Looks (among tasks) w a.sight
  looks_kept =
      let reach = reach_kept x a.sight.reach views.looks.reach in
      record {
        tasks = views.looks.tasks;
        reach = reach;
        found = found_is_seen w tasks a.sight.reach a.sight.found reach found_again;
        opens = λ o. both_ways (views.looks.opens o) (Sees-kept x (OpenOf o), Sees-back x (OpenOf o));
        readable = λ n. both_ways (views.looks.readable n) (has_for_kept x READ n, has_for_kept back READ n);
        writable = λ n. both_ways (views.looks.writable n) (has_for_kept x WRITE n, has_for_kept back WRITE n);
        controlled = λ s. both_ways (views.looks.controlled s) (holds_kept x (Control s), holds_kept back (Control s));
        known = λ s. both_ways (views.looks.known s) (known_kept x s, known_kept back s);
        sendable = λ s. both_ways (views.looks.sendable s) (sent_kept x s, sent_kept back s);
      }

  gathered_kept : Gathered w a.sight
  gathered_kept = record {
    found = subst (λ (ts : List TaskId). FoundAll (nodes_of w) w.tasks a.sight.reach ts a.sight.found) (sym views.ours) found_again;
    rights =
        views.gathered.rights
        ∙ (ap (λ (ts : List TaskId). with_rights v.opens (rights_held v.tasks ts) no_names) views.ours
        ∙ (sym (names_same tasks v w x) ∙ ap (λ (ts : List TaskId). with_rights w.opens (rights_held w.tasks ts) no_names) (sym views.ours)));
    known = views.gathered.known ∙ known_same tasks v w x a.sight.reach a.sight.found views.looks.reach all_found;
  }

  -- the same sight of the other world, with its rows
  abbrev other : View
  other = record a { rows = rows_for w a.sight (names_seen a.sight) }

  other_views : Views tasks w other
  other_views = record {
    looks = looks_kept;
    ours = views.ours;
    gathered = gathered_kept;
    rows = refl;
    seats = views.seats ∙ seats_same v w tasks (λ t is. sym (same_tasks x t is));
    count = views.count ∙ sym x.tasks;
  }

pub views_stay : ViewsStay
views_stay tasks v w a sound_v sound_w same views =
    let x = agree_of same in
    let other = other_views tasks v w a x views in
    record {
      looks = other.looks;
      ours = other.ours;
      gathered = other.gathered;
      rows =
          views.rows
          ∙ map_same (λ (n : Name). (n, row_of v a.sight n)) (λ (n : Name). (n, row_of w a.sight n)) (names_seen a.sight)
          (λ n. ap (λ (r : Row). (n, r)) (row_same tasks v w a (record a { rows = rows_for w a.sight (names_seen a.sight) }) sound_v sound_w views other same n));
      seats = other.seats;
      count = other.count;
    }
