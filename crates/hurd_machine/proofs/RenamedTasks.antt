-- What is read of tasks, their ports and their rights where things have other names.
use Rattle.std.proofs.Common.{◌≡◌, ◌||◌, ◌++◌, ◌+◌, ◌==◌, ℕ, zero, suc, Bool, true, false, if◌then◌else◌, List, [], ◌∷◌, Option, Some, None, Result, Ok, Err, length, map, refl, ap, ap₂, ◌∙◌, arith}
use Rattle.std.specs.Prelude.{◌&&◌, nat_le, nat_lt, slice_get}
use Rattle.std.specs.Option.{option_map}
use Rattle.hurd_creds.specs.Weights.{weigh_list}
use Rattle.hurd_ports.specs.declared.parents.Parent.{Parent}
use Rattle.hurd_ports.specs.declared.table.Port.{Port}
use Rattle.hurd_ports.specs.Tables.{io_of, io_right_in, names_node, names_server, naming_at, nodes_of as nodes_named, pending_at, right_of, weigh_rights}
unfoldable use Rattle.hurd_ports.specs.Tables.{is_controlled, is_named}
use Rattle.hurd_machine.proofs.Common.{Control, EBADF, EOVERFLOW, ESRCH, Errno, Io, Name, PendingStart, Right, Start, Task, World, can_name, count_rights, first_sent, fresh, has_room, ids_at, io_right_of, is_held, list_any, name_of, names_open, naming_of, one_if, open_of, or_refuse, pending_of, ports_of, right_at, right_in, rights_of, room_at, room_of, same_name, start_of, task_at, task_of, u64_greatest, ways_of}
use Rattle.hurd_machine.specs.Sight.{holders, is_on, users}
use Rattle.hurd_machine.specs.Renamed.{OtherNames, io_renamed, port_renamed, renamed, right_renamed, start_renamed, task_renamed, tasks_renamed, way_renamed}
use Rattle.hurd_machine.proofs.RenamedMaps.{same_name-renamed}
use Rattle.hurd_machine.proofs.RenamedNodes.{is_home_in-renamed}
use Rattle.hurd_machine.proofs.RenamedPlans.{answer_renamed, or_refuse-renamed}

module _ (f : OtherNames) where
  -- rights

  pub open_of-renamed : (r : Right) → open_of (right_renamed f.to r) ≡ option_map f.to (open_of r)
  open_of-renamed (Io r) = refl
  open_of-renamed r = refl

  pub io_of-renamed : (r : Right) → io_of (right_renamed f.to r) ≡ option_map (io_renamed f.to) (io_of r)
  io_of-renamed (Io r) = refl
  io_of-renamed r = refl

  pub ways_of-renamed : (ps : List Parent) → ways_of (map (way_renamed f.to) ps) ≡ map f.to (ways_of ps)
  ways_of-renamed [] = refl
  ways_of-renamed (p ∷ ps) = ap (λ ns. f.to p.at ∷ (f.to p.parent ∷ ns)) (ways_of-renamed ps)

  pub nodes_of-renamed : (r : Right) → nodes_named (right_renamed f.to r) ≡ map f.to (nodes_named r)
  nodes_of-renamed (Io r) = ap (◌∷◌ (f.to r.node)) (ways_of-renamed r.parents)
  nodes_of-renamed r = refl

  pub names_open-renamed : (o : Name) (r : Right) → names_open (f.to o) (right_renamed f.to r) ≡ names_open o r
  names_open-renamed o (Io r) = same_name-renamed f r.open_name o
  names_open-renamed o r = refl

  pub names_server-renamed : (s : Name) (r : Right) → names_server (f.to s) (right_renamed f.to r) ≡ names_server s r
  names_server-renamed s (Io r) = refl
  names_server-renamed s (Control q) = same_name-renamed f s q
  names_server-renamed s (Start n) = refl

  among-renamed : (n : Name) (ns : List Name) → list_any (λ m. same_name (f.to n) m) (map f.to ns) ≡ list_any (λ m. same_name n m) ns
  among-renamed n [] = refl
  among-renamed n (m ∷ ns) = ap₂ ◌||◌ (same_name-renamed f n m) (among-renamed n ns)

  pub names_node-renamed : (n : Name) (r : Right) → names_node (f.to n) (right_renamed f.to r) ≡ names_node n r
  names_node-renamed n r = ap (list_any (λ m. same_name (f.to n) m)) (nodes_of-renamed r) ∙ among-renamed n (nodes_named r)

  pub first_sent-renamed : (rs : List Right) → first_sent (map (right_renamed f.to) rs) ≡ option_map (right_renamed f.to) (first_sent rs)
  first_sent-renamed [] = refl
  first_sent-renamed (r ∷ rs) = refl

  start_of-renamed : (o : Option PendingStart) → start_of (option_map (start_renamed f.to) o) ≡ map (right_renamed f.to) (start_of o)
  start_of-renamed None = refl
  start_of-renamed (Some s) = refl

  ports_rights : (ps : List Port) (rs : List Right) → map (λ (p : Port). p.right) (map (port_renamed f.to) ps) ++ map (right_renamed f.to) rs ≡ map (right_renamed f.to) (map (λ (p : Port). p.right) ps ++ rs)
  ports_rights [] rs = refl
  ports_rights (p ∷ ps) rs = ap (◌∷◌ (right_renamed f.to p.right)) (ports_rights ps rs)

  joined : (qs rs : List Right) → map (right_renamed f.to) qs ++ map (right_renamed f.to) rs ≡ map (right_renamed f.to) (qs ++ rs)
  joined [] rs = refl
  joined (q ∷ qs) rs = ap (◌∷◌ (right_renamed f.to q)) (joined qs rs)

  -- all rights of a task
  pub rights_of-renamed : (more : ℕ) (x : Task) → rights_of (task_renamed f.to more x) ≡ map (right_renamed f.to) (rights_of x)
  rights_of-renamed more x = ap₂ ◌++◌ (start_of-renamed x.pending) (ports_rights x.ports x.inbox) ∙ joined (start_of x.pending) (map (λ (p : Port). p.right) x.ports ++ x.inbox)

  -- tasks

  pub slice_get-renamed : (more : ℕ → ℕ) (ts : List Task) (t : ℕ) → slice_get (tasks_renamed f.to more ts) t ≡ option_map (task_renamed f.to (more t)) (slice_get ts t)
  slice_get-renamed more [] t = refl
  slice_get-renamed more (x ∷ ts) zero = refl
  slice_get-renamed more (x ∷ ts) (suc t) = slice_get-renamed (λ u. more (suc u)) ts t

  pub length-renamed : (more : ℕ → ℕ) (ts : List Task) → length (tasks_renamed f.to more ts) ≡ length ts
  length-renamed more [] = refl
  length-renamed more (x ∷ ts) = ap suc (length-renamed (λ u. more (suc u)) ts)

  -- the right under a number
  pub right_in-renamed : (p : ℕ) (ps : List Port) → right_in p (map (port_renamed f.to) ps) ≡ option_map (right_renamed f.to) (right_in p ps)
  right_in-renamed p [] = refl
  right_in-renamed p (x ∷ ps) = go (p == x.number) (right_in-renamed p ps)
    where
      go : (b : Bool) → right_in p (map (port_renamed f.to) ps) ≡ option_map (right_renamed f.to) (right_in p ps)
          → (if b then Some (right_renamed f.to x.right) else right_in p (map (port_renamed f.to) ps)) ≡ option_map (right_renamed f.to) (if b then Some x.right else right_in p ps)
      go true rest = refl
      go false rest = rest

  right_at-renamed : (more p : ℕ) (o : Option Task) → right_at p (option_map (task_renamed f.to more) o) ≡ answer_renamed (right_renamed f.to) (right_at p o)
  right_at-renamed more p None = refl
  right_at-renamed more p (Some x) = ap (or_refuse EBADF) (right_in-renamed p x.ports) ∙ or_refuse-renamed (right_renamed f.to) EBADF (right_in p x.ports)

  io_right_in-renamed : (r : Result Right Errno) → io_right_in (answer_renamed (right_renamed f.to) r) ≡ answer_renamed (io_renamed f.to) (io_right_in r)
  io_right_in-renamed (Err e) = refl
  io_right_in-renamed (Ok r) = ap (or_refuse EBADF) (io_of-renamed r) ∙ or_refuse-renamed (io_renamed f.to) EBADF (io_of r)

  pending_at-renamed : (more : ℕ) (o : Option Task) → pending_at (option_map (task_renamed f.to more) o) ≡ option_map (start_renamed f.to) (pending_at o)
  pending_at-renamed more None = refl
  pending_at-renamed more (Some x) = refl

  -- of a task that has made no more

  none_more : (x : Task) → x.made + 0 ≡ x.made
  none_more x = omega arith

  pub can_name-renamed : (names : ℕ) (x : Task) → can_name names (task_renamed f.to 0 x) ≡ can_name names x
  can_name-renamed names x = ap (λ k. nat_le (k + names) u64_greatest) (none_more x)

  pub has_room-renamed : (names : ℕ) (x : Task) → has_room names (task_renamed f.to 0 x) ≡ has_room names x
  has_room-renamed names x = ap (λ b. nat_lt x.next u64_greatest && b) (can_name-renamed names x)

  pub fresh-renamed : (t : ℕ) (x : Task) → fresh t (task_renamed f.to 0 x) ≡ fresh t x
  fresh-renamed t x = ap (name_of t) (none_more x)

  -- in the world

  module _ (w : World) (t : ℕ) where
    pub task_at-renamed : task_at (renamed f w) t ≡ option_map (task_renamed f.to (f.more t)) (task_at w t)
    task_at-renamed = slice_get-renamed f.more w.tasks t

    pub task_of-renamed : task_of (ports_of (renamed f w)) t ≡ answer_renamed (task_renamed f.to (f.more t)) (task_of (ports_of w) t)
    task_of-renamed = ap (or_refuse ESRCH) task_at-renamed ∙ or_refuse-renamed (task_renamed f.to (f.more t)) ESRCH (task_at w t)

    pub right_of-renamed : (p : ℕ) → right_of (ports_of (renamed f w)) t p ≡ answer_renamed (right_renamed f.to) (right_of (ports_of w) t p)
    right_of-renamed p = ap (right_at p) task_at-renamed ∙ right_at-renamed (f.more t) p (task_at w t)

    pub io_right_of-renamed : (p : ℕ) → io_right_of (ports_of (renamed f w)) t p ≡ answer_renamed (io_renamed f.to) (io_right_of (ports_of w) t p)
    io_right_of-renamed p = ap io_right_in (right_of-renamed p) ∙ io_right_in-renamed (right_of (ports_of w) t p)

    pub pending_of-renamed : pending_of (ports_of (renamed f w)) t ≡ option_map (start_renamed f.to) (pending_of (ports_of w) t)
    pending_of-renamed = ap pending_at task_at-renamed ∙ pending_at-renamed (f.more t) (task_at w t)

    -- where it has made no more
    module _ (none : f.more t ≡ 0) where
      pub caller-renamed : task_at (renamed f w) t ≡ option_map (task_renamed f.to 0) (task_at w t)
      caller-renamed = task_at-renamed ∙ ap (λ more. option_map (task_renamed f.to more) (task_at w t)) none

  -- how many rights weigh so much, or pass a test, that goes by other names alike

  module _ (V W : Right → ℕ) (same : (r : Right) → V (right_renamed f.to r) ≡ W r) where
    weights : (rs : List Right) → weigh_list V (map (right_renamed f.to) rs) ≡ weigh_list W rs
    weights [] = refl
    weights (r ∷ rs) = ap₂ ◌+◌ (same r) (weights rs)

    pub weigh_rights-renamed : (more : ℕ → ℕ) (ts : List Task) → weigh_rights V (tasks_renamed f.to more ts) ≡ weigh_rights W ts
    weigh_rights-renamed more [] = refl
    weigh_rights-renamed more (x ∷ ts) = ap₂ ◌+◌ (ap (weigh_list V) (rights_of-renamed (more 0) x) ∙ weights (rights_of x)) (weigh_rights-renamed (λ u. more (suc u)) ts)

  module _ (p q : Right → Bool) (same : (r : Right) → p (right_renamed f.to r) ≡ q r) where
    pub count_rights-renamed : (more : ℕ → ℕ) (ts : List Task) → count_rights p (tasks_renamed f.to more ts) ≡ count_rights q ts
    count_rights-renamed more ts = weigh_rights-renamed (λ r. one_if (p r)) (λ r. one_if (q r)) (λ r. ap one_if (same r)) more ts

    tests : (rs : List Right) → list_any p (map (right_renamed f.to) rs) ≡ list_any q rs
    tests [] = refl
    tests (r ∷ rs) = ap₂ ◌||◌ (same r) (tests rs)

    -- whether some right passes it
    pub any_right-renamed : (more : ℕ → ℕ) (ts : List Task) → list_any (λ (x : Task). list_any p (rights_of x)) (tasks_renamed f.to more ts) ≡ list_any (λ (x : Task). list_any q (rights_of x)) ts
    any_right-renamed more [] = refl
    any_right-renamed more (x ∷ ts) = ap₂ ◌||◌ (ap (list_any p) (rights_of-renamed (more 0) x) ∙ tests (rights_of x)) (any_right-renamed (λ u. more (suc u)) ts)

  module _ (w : World) where
    uses_server-renamed : (s : Name) (r : Right) → is_on (renamed f w) (f.to s) (right_renamed f.to r) ≡ is_on w s r
    uses_server-renamed s (Io r) = is_home_in-renamed f w.sites s r.node
    uses_server-renamed s r = refl

    -- how many rights there are on nodes of a server
    pub users-renamed : (s : Name) → users (renamed f w) (f.to s) ≡ users w s
    users-renamed s = count_rights-renamed (is_on (renamed f w) (f.to s)) (is_on w s) (uses_server-renamed s) f.more w.tasks

    -- how many hold an open
    pub holders-renamed : (o : Name) → holders (renamed f w) (f.to o) ≡ holders w o
    holders-renamed o = count_rights-renamed (names_open (f.to o)) (names_open o) (names_open-renamed o) f.more w.tasks

    pub is_held-renamed : (o : Name) → is_held (renamed f w).tasks (f.to o) ≡ is_held w.tasks o
    unfolding is_held
    is_held-renamed o = any_right-renamed (names_open (f.to o)) (names_open o) (names_open-renamed o) f.more w.tasks

    pub is_named-renamed : (n : Name) → is_named (renamed f w).tasks (f.to n) ≡ is_named w.tasks n
    unfolding is_named
    is_named-renamed n = any_right-renamed (names_node (f.to n)) (names_node n) (names_node-renamed n) f.more w.tasks

    pub is_controlled-renamed : (s : Name) → is_controlled (renamed f w).tasks (f.to s) ≡ is_controlled w.tasks s
    unfolding is_controlled
    is_controlled-renamed s = any_right-renamed (names_server (f.to s)) (names_server s) (names_server-renamed s) f.more w.tasks
