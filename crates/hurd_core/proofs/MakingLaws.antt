-- A node made, and a file opened with it, half by half, is the machine's making.
use Rattle.std.proofs.Common.{◌≡◌, ◌≢◌, ◌∙◌, inl, inr, ℕ, ◌+◌, Bool, true, List, ◌∷◌, Option, Some, None, refl, sym, ap, ap₂, subst, slice_get, nat_lt, nat_le, arith}
use Rattle.std.specs.Prelude.{Result, Ok, Err, is_ok, ◌&&◌, if◌then◌else◌}
use Rattle.std.specs.Option.{option_map}
use Rattle.hurd_machine.proofs.Common.{AddNode, EDIED, ENOMEM, EOVERFLOW, Errno, File, IdSets, Kind, MakeNode, Name, NewNode, Node, NodeState, OpenFlags, PortState, Steps, Task, World, apply_all, can_make, changes_of, edit_all, first, fresh, get, has_room, home_at, home_in, info_in, insert_step, made_node, make_at, makes_at, name_step, named_by, new_file, on, opening, room_at, room_of, u64_greatest, with_home, with_made, with_new_port, world_from}
use Rattle.hurd_trans_iface.specs.Answers.{added, entering}
use Rattle.hurd_nodes.specs.Shown.{made_by, on_ok}
use Rattle.hurd_ports.specs.declared.parents.Parent.{Parent}
use Rattle.hurd_ports.specs.Steps.{named}
use Rattle.hurd_ports.proofs.TaskLaws.{edit-here}
use Rattle.hurd_machine.proofs.Keeping.{apply_all-append}
use Rattle.hurd_core.specs.Core.{Does, NewNodeAt, asked_node, asked_only, making, making_asks, making_open}
use Rattle.hurd_core.proofs.CoreLaws.{IsRefused, HasRoom, room, insert-had}
use Rattle.hurd_core.proofs.UserLaws.{made_apart}

-- where a node may be made in a directory, that has a server
home_by : (h : NodeState) (d : Name) (entry : Option (List ℕ)) (kind : Kind) (o : Option Name) → home_in h.sites d ≡ o → made_by entry kind (info_in h.servers o) (get h.nodes d) ≡ Ok tt → (s : Name) × (home_in h.sites d ≡ Some s)
home_by h d entry kind None at e = absurd (cc)
home_by h d entry kind (Some s) at e = (s, at)

-- of room for two names one is left when one is given
pub less : (next made : ℕ) → (nat_lt next u64_greatest && nat_le (made + 2) u64_greatest) ≡ true → (nat_lt next u64_greatest && nat_le ((made + 1) + 1) u64_greatest) ≡ true
less next made h = let e : (made + 1) + 1 ≡ made + 2 = omega arith in rw e h

module _ (N : NodeState) (H : PortState) (t : ℕ) (f : NewNodeAt) where
  abbrev w : World
  w = world_from N H

  pub making-home : (kind : Kind) → can_make f.dir f.entry kind N ≡ Ok tt → (s : Name) × (home_in N.sites f.dir ≡ Some s)
  making-home kind e = home_by N f.dir f.entry kind (home_in N.sites f.dir) refl e

  asks_more : Result Task Errno → Result (Task × Name) Errno
  asks_more r = first r (λ x. first (makes_at w f.dir f.entry File) (λ u. on EDIED (home_at w f.dir) (λ s. Ok (x, s))))

  asks_home : Task → Result (Unit {0}) Errno → Option Name → Result (Task × Name) Errno
  asks_home x r o = first r (λ u. on EDIED o (λ s. Ok (x, s)))

  pub no-room : (e : Errno) → room_of H t 2 ≡ Err e → making_asks w t f ≡ Err e
  unfolding first asks_more
  no-room e h = elim (room N H t 2) [
    | IsRefused k told asks ↦ let same : k ≡ e = cc in ap asks_more asks ∙ ap Err same
    | HasRoom x at free told asks ↦ absurd (cc)
  ]

  pub not-made : (e : Errno) → room_of H t 2 ≡ Ok tt → can_make f.dir f.entry File N ≡ Err e → making_asks w t f ≡ Err e
  unfolding first asks_more asks_home
  not-made e h m = elim (room N H t 2) [
    | IsRefused k told asks ↦ absurd (cc)
    | HasRoom x at free told asks ↦ ap asks_more asks ∙ ap (λ r. asks_home x r (home_at w f.dir)) m
  ]

  -- a task that makes the file, and the server
  pub record Makes : Type 0 where
    pub task : Task
    pub there : slice_get H.tasks t ≡ Some task
    pub free : has_room 2 task ≡ true
    pub server : Name
    pub home : home_in N.sites f.dir ≡ Some server
    pub asks : making_asks w t f ≡ Ok (task, server)

  pub makes : room_of H t 2 ≡ Ok tt → can_make f.dir f.entry File N ≡ Ok tt → Makes
  unfolding first on asks_more asks_home
  makes h m =
      let s = making-home File m in
      elim (room N H t 2) [
        | IsRefused k told asks ↦ absurd (cc)
        | HasRoom x at free told asks ↦ record {
          task = x;
          there = at;
          free = free;
          server = s.0;
          home = s.1;
          asks = ap asks_more asks ∙ ap (λ r. asks_home x r (home_at w f.dir)) m ∙ ap (asks_home x (Ok tt)) s.1;
        }
      ]

  -- the task, once it has given the node's name
  abbrev pub after_name : PortState
  after_name = name_step t H

  pub named_there : (x : Task) → slice_get H.tasks t ≡ Some x → slice_get after_name.tasks t ≡ Some (named 1 x)
  named_there x at = edit-here t (named 1) H.tasks ∙ ap (option_map (named 1)) at

  -- whether it can be made is all that is asked
  pub file-asked : room_of H t 2 ≡ Ok tt → (r : Result (Unit {0}) Errno) → r ≡ can_make f.dir f.entry File N → r ≡ asked_only (making_asks w t f)
  file-asked h (Err e) is = sym (ap asked_only (not-made e h (sym is)))
  file-asked h (Ok u) is = sym (ap asked_only (makes h (sym is)).asks)

  -- the halves after the making are the world after it
  module _ (kind : Kind) (n s : Name) (home : home_in N.sites f.dir ≡ Some s) (node : Node) (is : made_node f.dir f.entry (asked_node kind f n) ≡ Some node) where
    abbrev made : Option Node → Option Name → NodeState
    made x o = record N { nodes = edit_all (added f.dir f.entry n x) N.nodes; sites = with_home n o N.sites }

    -- the entry, if there is one, is an edit of the machine's
    entry-made : (o : Option (List ℕ)) → world_from (record N { nodes = edit_all (AddNode n node ∷ entering f.dir o n) N.nodes; sites = with_home n (Some s) N.sites }) (name_step n.task.0 H)
        ≡ apply_all (MakeNode n s node ∷ changes_of (entering f.dir o n)) w
    entry-made None = refl
    entry-made (Some name) = refl

    pub made-nodes : (M : NodeState) → M ≡ with_made f.dir f.entry (asked_node kind f n) N → n.task.0 ≡ t → world_from M after_name ≡ apply_all (MakeNode n s node ∷ changes_of (entering f.dir f.entry n)) w
    made-nodes M e own =
        ap (λ (z : NodeState). world_from z after_name) e
        ∙ ap₂ (λ (x : Option Node) (o : Option Name). world_from (made x o) after_name) is home
        ∙ ap (λ (q : ℕ). world_from (made (Some node) (Some s)) (name_step q H)) (sym own)
        ∙ entry-made f.entry

  -- with room for two names there is still room for one when one is given
  pub room-left : (x : Task) → slice_get H.tasks t ≡ Some x → has_room 2 x ≡ true → room_of after_name t 1 ≡ Ok tt
  room-left x at h =
      let free : has_room 1 (named 1 x) ≡ true = less x.next x.made h in
      ap (room_at 1) (named_there x at) ∙ ap told_room free
    where
      told_room : Bool → Result (Unit {0}) Errno
      told_room b = if b then Ok tt else Err EOVERFLOW

  -- the halves after the making and the opening are the world after both
  module _ (ids : IdSets) (parents : List Parent) (modes : OpenFlags) (m : Makes) where
    abbrev n : Name
    n = fresh t m.task

    pub made-opened : (M : NodeState) (K : PortState) (k : ℕ) → M ≡ with_made f.dir f.entry (asked_node File f n) N → insert_step t n ids parents modes after_name ≡ (Ok k, K)
        → Does w (making_asks w t f) (making_open t f ids parents modes) (λ a. a.0.next) (Ok k) (world_from M K)
    made-opened M K k e inserted =
        let free : has_room 1 (named 1 m.task) ≡ true = less m.task.next m.task.made m.free in
        let is = sym inserted ∙ insert-had M after_name t n ids parents modes (named 1 m.task) (named_there m.task m.there) free in
        let number : Ok k ≡ Ok m.task.next = ap (λ (z : Result ℕ Errno × PortState). z.0) is in
        let ports : K ≡ with_new_port t n ids parents modes (named 1 m.task) after_name = ap (λ (z : Result ℕ Errno × PortState). z.1) is in
        let file = new_file f.owner f.group f.mode in
        let opened = opening t (named 1 m.task) n ids parents modes in (
          (m.task, m.server),
          m.asks,
          cc number,
          ap (world_from M) ports ∙ ap (apply_all opened) (made-nodes File n m.server m.home (named_by f.entry file) refl M e refl)
              ∙ sym (apply_all-append (making t m.task m.server f file) opened w),
        )

  -- a making that finds no memory changes nothing
  pub lacks-memory : Makes → (e : Errno) (y : World) → y ≡ w → e ≡ ENOMEM → (ids : IdSets) (parents : List Parent) (modes : OpenFlags) → Does w (making_asks w t f) (making_open t f ids parents modes) (λ a. a.0.next) (Err e) y
  lacks-memory m e y same lacks ids parents modes = (same, inr (lacks, ap is_ok m.asks))

  -- nothing but memory is refused where the server lets the node be made
  pub make-lacks : (kind : Kind) (name : Name) (new : NewNode) (e : Errno) (M : NodeState) → can_make f.dir f.entry kind N ≡ Ok tt → new ≡ asked_node kind f name → Steps N (make_at f.dir f.entry new N) (Err e) M → (e ≡ ENOMEM) × (M ≡ N)
  make-lacks kind name new e M m asked s = go (subst (λ (z : NewNode). Steps N (make_at f.dir f.entry z N) (Err e) M) asked s)
    where
      go : Steps N (make_at f.dir f.entry (asked_node kind f name) N) (Err e) M → (e ≡ ENOMEM) × (M ≡ N)
      go steps = elim steps.answered [
        | inl is ↦ absurd (cc (m, is))
        | inr lacks ↦ (lacks.0, steps.left ∙ rw lacks.0 refl)
      ]

  pub make-done : (new : NewNode) (M : NodeState) → can_make f.dir f.entry new.kind N ≡ Ok tt → Steps N (make_at f.dir f.entry new N) (Ok tt) M → M ≡ with_made f.dir f.entry new N
  make-done new M m s = s.left ∙ ap (λ (a : Result (Unit {0}) Errno). on_ok a N (with_made f.dir f.entry new N)) m

  -- the other sites stay
  pub made-apart : (kind : Kind) (name : Name) (new : NewNode) (M : NodeState) → can_make f.dir f.entry kind N ≡ Ok tt → new ≡ asked_node kind f name → Steps N (make_at f.dir f.entry new N) (Ok tt) M
      → (m : Name) → m ≢ name → home_in M.sites m ≡ home_in N.sites m
  made-apart kind name new M may is steps m apart =
      let made = make-done (asked_node kind f name) M may (subst (λ (z : NewNode). Steps N (make_at f.dir f.entry z N) (Ok tt) M) is steps) in
      ap (λ (K : NodeState). home_in K.sites m) made ∙ made_apart name (home_in N.sites f.dir) N.sites m apart

  -- all of it: the name that is next, the node made under it, the name given, and the port put in
  pub file-made : (ids : IdSets) (parents : List Parent) (modes : OpenFlags) (G L K : PortState) (M : NodeState) (name : Name) (new : NewNode) (k : ℕ) → room_of H t 2 ≡ Ok tt → can_make f.dir f.entry File N ≡ Ok tt → G ≡ H
      → Some name ≡ option_map (fresh t) (slice_get G.tasks t) → new ≡ asked_node File f name → Steps N (make_at f.dir f.entry new N) (Ok tt) M → L ≡ name_step t G → insert_step t name ids parents modes L ≡ (Ok k, K)
      → Does w (making_asks w t f) (making_open t f ids parents modes) (λ a. a.0.next) (Ok k) (world_from M K)
  file-made ids parents modes G L K M name new k h may kept next asked steps gave inserted =
      let m = makes h may in
      let is : Some name ≡ Some (fresh t m.task) = next ∙ ap (λ (z : PortState). option_map (fresh t) (slice_get z.tasks t)) kept ∙ ap (option_map (fresh t)) m.there in
      let same : name ≡ fresh t m.task = cc in
      let wanted : new ≡ asked_node File f (fresh t m.task) = asked ∙ ap (asked_node File f) same in
      let made : M ≡ with_made f.dir f.entry (asked_node File f (fresh t m.task)) N =
      make-done (asked_node File f (fresh t m.task)) M may (subst (λ (z : NewNode). Steps N (make_at f.dir f.entry z N) (Ok tt) M) wanted steps) in
      let ports : L ≡ after_name = gave ∙ ap (name_step t) kept in
      let put : insert_step t (fresh t m.task) ids parents modes after_name ≡ (Ok k, K) =
      ap (λ (n : Name). insert_step t n ids parents modes after_name) (sym same) ∙ ap (insert_step t name ids parents modes) (sym ports) ∙ inserted in
      made-opened ids parents modes m M K k made put
