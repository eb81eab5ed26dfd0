-- The first world is sound, whatever the kind of the boot server.
use Rattle.std.proofs.Common.{◌≡◌, inl, inr, ℕ, ◌+◌, ◌<◌, Bool, true, false, true≢false, if◌then◌else◌, List, length, refl, ap, sym, subst, zero-add, ◌∙◌, arith}
use Rattle.std.specs.Prelude.{Option, Some, None, cond}
use Rattle.std.specs.Option.{option_map}
use Rattle.std.specs.FinMap as fin
use Rattle.hurd_machine.proofs.Common.{AreFilled, AreSeated, AreTables, AtRest, Below, Control, Dir, Hangs, HasDistinctNames, Header, IdSets, Io, IsAmong, IsFilled, IsGivenRight, IsShaped, Kind, Linked, Meaning, Name, Node, NodeState, Opened, Right, ServerInfo, Site, Sound, Start, Task, WRITE, World, active_in, asks, body_of, boot_mode, boot_name, booted, root_body, header_of, home_in, info_in, is_dir, is_plain, is_tree, lists, lists_at, name_of, new_root, new_site, rights_of, server_of, state_of, task_at, times_in, times_listed, tree_by, ways_of}
use Rattle.hurd_nodes.proofs.Sites.{site-of, seat-site, home_by}
use Rattle.hurd_creds.proofs.NameLaws.{get_here, same_name-itself}
use Rattle.hurd_creds.proofs.MapLaws.{get-map_values}
use Rattle.hurd_trans_iface.specs.declared.root.Root.{Root}
use Rattle.hurd_trans_iface.proofs.BodyLaws.{begun_has, begun_holds}
use Rattle.hurd_trans_iface.specs.Meaning.{Begins, behaviour_of, new_server, root_of, targets_of}
use Rattle.hurd_trans_iface.specs.declared.begun.ServerKind.{ServerKind}
use Rattle.hurd_trans_iface.proofs.Beginnings.{begun-new}
use Rattle.hurd_trans_iface.proofs.Goods.{tree-told}
use Rattle.hurd_nodes.specs.Shown.{boot_info}
use Rattle.hurd_ports.specs.declared.parents.Parent.{Parent}
use Rattle.hurd_ports.specs.Tables.{nodes_of as nodes_named}
use Rattle.hurd_machine.specs.Sound.{AreGiven, AreHoused, IsTree, AreOfKind}
use Rattle.hurd_machine.proofs.Stays.{root_is_root, stays_root, lives_boot}
use Rattle.hurd_creds.proofs.Sums.{total_none}
use Rattle.hurd_world.specs.Boot.{first_world}
use Rattle.hurd_world.proofs.FirstPorts.{IsFirst, OfTask, boot_seat, boot_right, boot_number, boot_open, boot_settled, closed, only, opens_there}

-- what a function of what is there comes from
option_map-origin : {A B : Type 0} (f : A → B) (o : Option A) (y : B) → option_map f o ≡ Some y → (x : A) × (o ≡ Some x) × (f x ≡ y)
option_map-origin f None y h = absurd (cc)
option_map-origin f (Some x) y h = (x, refl, cc)

-- bodies of roots

first_shaped : (k : Kind) (h : Header) (bs : List ℕ) → h.kind ≡ k → IsShaped h (root_body (is_dir k) bs)
first_shaped Dir h bs e = e
first_shaped _ h bs e = rw e refl

first_distinct : (b : Bool) (bs : List ℕ) → HasDistinctNames (root_body b bs)
first_distinct true bs = tt
first_distinct false bs = tt

first_times : (b : Bool) (bs : List ℕ) (n : Name) → times_in n (root_body b bs) ≡ 0
first_times true bs n = refl
first_times false bs n = refl

first_lists : (b : Bool) (bs : List ℕ) (n : Name) → lists n (root_body b bs) ≡ false
first_lists true bs n = refl
first_lists false bs n = refl

-- the boot server, begun: its root is the only node
module _ (kind : ServerKind) (text : List ℕ) where
  abbrev state : NodeState
  state = state_of (booted (new_server kind text))

  abbrev root : Node
  root = new_root (behaviour_of kind) text 0 0 boot_mode

  abbrev info : ServerInfo
  info = boot_info (new_server kind text)

  root_node : fin.get state.nodes boot_name ≡ Some root
  root_node = get_here fin.empty boot_name root

  root_header : header_of state.nodes boot_name ≡ Some root.header
  root_header = ap (option_map (λ (x : Node). x.header)) root_node

  root_home : home_in state.sites boot_name ≡ Some boot_name
  root_home = ap home_by (get-map_values (λ (x : Node). new_site boot_name) state.nodes boot_name ∙ ap (option_map (λ (x : Node). new_site boot_name)) root_node)

  -- what has a row is a node, on which none is active
  site_is : (n : Name) (r : Site) → fin.get state.sites n ≡ Some r → (x : Node) × (fin.get state.nodes n ≡ Some x) × (new_site boot_name ≡ r)
  site_is n r is = option_map-origin _ (fin.get state.nodes n) r (sym (get-map_values (λ (x : Node). new_site boot_name) state.nodes n) ∙ is)

  root_server : fin.get state.servers boot_name ≡ Some info
  root_server = get_here fin.empty boot_name info

  server_only : (s : Name) (i : ServerInfo) → fin.get state.servers s ≡ Some i → (s ≡ boot_name) × (i ≡ info)
  server_only s i is = only boot_name info s i is

  node_only : (n : Name) (x : Node) → fin.get state.nodes n ≡ Some x → (n ≡ boot_name) × (x ≡ root)
  node_only n x is = only boot_name root n x is

  header_only : (n : Name) (k : Header) → header_of state.nodes n ≡ Some k → (n ≡ boot_name) × (k ≡ root.header)
  header_only n k is = let x = option_map-origin _ (fin.get state.nodes n) k is in let e = node_only n x.0 x.1 in (e.0, sym x.2 ∙ ap (λ (y : Node). y.header) e.1)

  no_entry : (d n : Name) → lists_at n (body_of state.nodes d) ≡ true → ⊥
  no_entry d n is = by_body (fin.get state.nodes d) refl is
    where
      by_body : (o : Option Node) → fin.get state.nodes d ≡ o → lists_at n (option_map (λ (x : Node). x.body) o) ≡ true → ⊥
      by_body None e h = true≢false (sym h)
      by_body (Some x) e h = true≢false (sym h ∙ ap (λ (y : Node). lists n y.body) (node_only d x e).1 ∙ first_lists (is_dir (root_of kind text).kind) ((behaviour_of kind).first text) n)

  housed : AreHoused state
  housed = record {
    homes = λ n k is. let e = header_only n k is in (boot_name, info, rw e.0 root_home, root_server);
    housed = λ n s is. let r = site-of state.sites n s is in let x = site_is n r.0 r.1 in (x.0.header, ap (option_map (λ (y : Node). y.header)) x.1);
    roots = λ s i is. let e = server_only s i is in rw (e.0, e.1) root_home;
    serving = λ s i is. (0, ap (λ (j : ServerInfo). j.ids) (server_only s i is).1);
    lone = λ n s i is there alone.
        let r = site-of state.sites n s is in
        let x = site_is n r.0 r.1 in
        (node_only n x.0 x.1).0 ∙ sym (ap (λ (j : ServerInfo). j.root) (server_only s i there).1);
  }

  no_active : (n s : Name) → active_in state.sites n ≡ Some s → ⊥
  no_active n s is =
      let r = seat-site state.sites n s is in
      let x = site_is n r.0 r.1 in
      let none : None ≡ Some s = ap (λ (y : Site). y.active) x.2 ∙ r.2 in
      absurd (cc)

  seated : AreSeated state
  seated = record {
    seated = λ n s is. absurd (no_active n s is);
    alone = λ n m s is there. absurd (no_active n s is);
    elsewhere = λ n s is at. no_active n s is;
  }

  tree : IsTree state
  tree = record {
    kin = λ d n is. absurd (no_entry d n is);
    trees = λ d n is. absurd (no_entry d n is);
    below = λ d n k is there dir. absurd (no_entry d n is);
    shapes = λ n x is. rw (node_only n x is).1 (first_shaped (root_of kind text).kind root.header ((behaviour_of kind).first text) refl);
    distinct = λ n x is. rw (node_only n x is).1 (first_distinct (is_dir (root_of kind text).kind) ((behaviour_of kind).first text));
    root = (root.header, root_header);
    boot = root_is_root state boot_name info root_server root_home;
    served = root_home;
  }

  -- the boot server aims at nothing, and its root is what its kind and text say
  kinds : AreOfKind state
  kinds = record {
    aims = λ s i is.
        let e = server_only s i is in
        rw (e.0, e.1) (ap (λ (b : Bool). if b then 0 else length (targets_of kind text)) (sym (same_name-itself boot_name)));
    ends = λ s n i is aim. absurd (subst (λ (j : ServerInfo). IsAmong n j.targets) (server_only s i is).1 aim);
    branches = λ s n i k is union aim ek. absurd (subst (λ (j : ServerInfo). IsAmong n j.targets) (server_only s i is).1 aim);
    roots = λ s i k is ek. ap (λ (h : Header). h.kind) (header_only i.root k ek).1 ∙ ap (λ (j : ServerInfo). (root_of j.kind j.text).kind) (sym (server_only s i is).1);
  }

  -- nothing names the root
  root_unnamed : times_listed state.nodes boot_name ≡ 0
  unfolding times_listed
  root_unnamed = total_none (λ (x : Node). times_in boot_name x.body) state.nodes (λ n x is. rw (node_only n x is).1 (first_times (is_dir (root_of kind text).kind) ((behaviour_of kind).first text) boot_name))

  -- where it keeps a tree, the root is a directory
  root_links : (r : Root) (t : ℕ) → is_tree r ≡ true → 1 ≡ cond (is_dir r.kind) 1 t
  root_links r t = go (is_dir r.kind)
    where
      go : (b : Bool) → (if b then is_plain r.crossing else false) ≡ true → 1 ≡ cond b 1 t
      go true h = refl
      go false h = absurd (true≢false (sym h))

  hangs : Hangs state boot_name root.header
  hangs = record {
    up = λ p up. absurd (cc);
    top = λ is. refl;
    once = λ dir. omega (arith, root_unnamed);
    links = λ tree.
        let served : server_of state boot_name ≡ Some info = ap (info_in state.servers) root_home ∙ root_server in
        root_links (root_of kind text) (times_listed state.nodes boot_name) (tree-told kind text ∙ sym (ap tree_by served) ∙ tree);
  }

  linked : Linked state
  linked = record {
    nodes = λ n k is. let e = header_only n k is in rw (e.0, e.1) hangs;
    rooted = λ d n is. absurd (no_entry d n is);
  }

  sized : AreFilled state
  sized n x i is there =
      let e = node_only n x is in
      let served : server_of state n ≡ Some info = ap (server_of state) e.0 ∙ ap (info_in state.servers) root_home ∙ root_server in
      let same : info ≡ i = cc in
      subst (λ (j : ServerInfo). IsFilled j x) same (rw e.1 (refl, begun_holds kind text, begun_has kind text 0 0 boot_mode))

  -- with the ports of tasks
  module _ (tasks : List IdSets) where
    abbrev w : World
    w = first_world (new_server kind text) tasks

    -- each task has named two things
    named_two : (t c : ℕ) → c < 2 → Below w (name_of t c)
    named_two t c lt x at = let seat = boot_seat 0 tasks t x at in rw seat.1 lt

    named_open : (t : ℕ) (q : Name) → OfTask t q → Below w q
    named_open t q (inl e) = subst (Below w) (sym e) (named_two t 0 (omega arith))
    named_open t q (inr e) = subst (Below w) (sym e) (named_two t 1 (omega arith))

    named_root : (n : Name) → n ≡ boot_name → Below w n
    named_root n e = subst (Below w) (sym e) (named_two boot_name.task.0 0 (omega arith))

    right_is : (t : ℕ) (x : Task) (r : Right) → task_at w t ≡ Some x → IsAmong r (rights_of x) → IsFirst t r × (t < length tasks)
    right_is t x r at has =
        let seat = boot_seat 0 tasks t x at in
        let is = boot_right (0 + t) seat.0 r (rw seat.1 at has) in
        (rw (zero-add t) at is, seat.2)

    -- what it names was given
    right_given : (t : ℕ) (r : Right) → IsFirst t r → IsGivenRight w r
    right_given t (Io r) is = (λ n named. elim named [ inl e ↦ named_root n (sym e ∙ is.node) | inr way ↦ absurd (subst (λ (ps : List Parent). IsAmong n (ways_of ps)) is.parents way) ], named_open t r.open_name is.open_name)
    right_given t (Control s) is = absurd is
    right_given t (Start n) is = absurd is

    -- which is the root of the tree
    right_root : (t : ℕ) (r : Right) (n : Name) → IsFirst t r → IsAmong n (nodes_named r) → n ≡ boot_name
    right_root t (Io r) n is (inl e) = sym e ∙ is.node
    right_root t (Io r) n is (inr way) = absurd (subst (λ (ps : List Parent). IsAmong n (ways_of ps)) is.parents way)
    right_root t (Control s) n is named = absurd is
    right_root t (Start m) n is named = absurd is

    given : AreGiven w
    given = record {
      nodes = λ n x is. named_root n (node_only n x is).0;
      opens = λ q x is. let one = boot_open tasks q x is in (named_open (0 + one.0) q one.2, named_root x.node (ap (λ (y : Opened). y.node) one.3));
      servers = λ s i is. named_root s (server_only s i is).0;
      rights = λ t x r at has. right_given t r (right_is t x r at has).0;
      entries = λ d n is. absurd (no_entry d n is);
      parents = λ n p k is up. absurd (let none = ap (λ (j : Header). j.parent) (header_only n k is).1 in cc);
      targets = λ s n i is among. absurd (subst (λ (j : ServerInfo). IsAmong n j.targets) (server_only s i is).1 among);
    }

    tables : AreTables w
    tables = record {
      numbers = λ t x p at has. let seat = boot_seat 0 tasks t x at in rw seat.1 (boot_number (0 + t) seat.0 p (rw seat.1 at has));
      opened = λ t x r at has. let is = right_is t x (Io r) at has in (closed, opens_there 0 tasks fin.empty t r.open_name is.1 (rw (← zero-add t) at is.0.open_name), sym is.0.node);
      written = λ t x r o at has is asked. absurd (true≢false (sym asked ∙ ap (λ (y : Opened). asks y.modes WRITE) (boot_open tasks r.open_name o is).3));
      held = λ t x r n at has named. inl (right_root t r n (right_is t x r at has).0 named);
    }

    -- the boot server stays, and with it the one node, which is its root
    rest : AtRest w
    rest = record {
      nodes = λ n x is. rw ((node_only n x is).0) (stays_root w boot_name info root_server root_home (lives_boot w));
      servers = λ s i is. rw ((server_only s i is).0) (lives_boot w);
      opens = boot_settled tasks;
    }

    sound : Sound w
    sound = record { coherent = record { given = given; housing = housed; seating = seated; tree = tree; kinds = kinds; tables = tables }; linked = linked; filled = sized; settled = rest }

pub first_sound : (m : Meaning) (tasks : List IdSets) → Begins m → Sound (first_world m tasks)
first_sound m tasks b = let new = begun-new b.0 m b.1 in rw new.2 (sound new.0 new.1 tasks)
