-- How many users servers have, as rights come and go, and nodes get other servers.
use Rattle.std.proofs.Common.{◌≡◌, ◌≢◌, ◌∙◌, ◌≤◌, inl, inr, ℕ, ◌+◌, ◌-◌, Bool, true, false, if◌then◌else◌, List, [], ◌∷◌, Option, Some, None, cond, refl, sym, ap, slice_get, nat_lt, length, arith}
use Rattle.std.specs.Prelude.{IfSome, Result, Ok, Err}
use Rattle.std.specs.Option.{option_map}
use Rattle.hurd_machine.proofs.Common.{Control, EBADF, EOVERFLOW, ESRCH, EditTask, Errno, IdSets, Io, Meaning, Name, NameMap, Node, NodeMap, NodeState, OpenFlags, PendingStart, PortState, Right, Send, ServerInfo, Site, Start, Steps, Task, World, attached, boot_mode, boot_name, booted, count_list, count_rights, deallocate_at, deallocate_step, edit, edit_task, empty, get-empty, given, has_room, home_in, insert, is_one, name_cmp, new_right, new_root, new_site, one_if, or_refuse, pend_at, pend_step, opening, received, remove, right_at, right_in, rights_of, same_name, state_of, take_ids_at, take_ids_step, task_at, uses_node, uses_server, with_active, with_home, with_ids, with_pending, with_port, with_sent, without_old, without_port, without_sites, world_from}
use Rattle.hurd_creds.specs.Memory.{lacks_memory}
use Rattle.hurd_creds.specs.NameMaps.{map_values}
use Rattle.hurd_creds.proofs.NameLaws.{same_name-itself, same_name-apart, same_or_apart}
use Rattle.hurd_trans_iface.specs.Meaning.{behaviour_of}
use Rattle.hurd_nodes.proofs.BootLaws.{one-mapped}
use Rattle.hurd_nodes.proofs.PartLaws.{same_bool}
use Rattle.hurd_nodes.proofs.Sites.{home-apart, home-edited, home-here, home-less, home-less_apart, home-was, home-stays, none-left}
use Rattle.hurd_ports.specs.declared.parents.Parent.{Parent}
use Rattle.hurd_creds.specs.Weights.{if_so}
use Rattle.hurd_creds.specs.Counts.{counted}
use Rattle.hurd_ports.specs.Counts.{most_counted}
use Rattle.hurd_ports.specs.Tables.{right_of, weigh_rights}
use Rattle.hurd_ports.specs.Steps.{dropped, named}
use Rattle.hurd_ports.proofs.TaskLaws.{edit-here}
use Rattle.hurd_ports.proofs.WeightLaws.{port_weighs, weigh_alike, weigh_both, weigh_dropped}
use Rattle.hurd_machine.proofs.Rights.{pending_counts, received_counts}
use Rattle.hurd_machine.proofs.Sending.{task_there}
use Rattle.hurd_machine.proofs.ServerParts.{none_counted, users_apart, users_gone}
use Rattle.hurd_machine.proofs.Sites.{home_is, not_home}
use Rattle.hurd_machine.proofs.Tasks.{count_edit, count_more, count_sent, count_still, count_named}
use Rattle.hurd_core.specs.declared.users.NodeUse.{NodeUse}
use Rattle.hurd_machine.proofs.Asks.{first_ok, given_ok, on_ok}
use Rattle.hurd_core.specs.Core.{Does, receive_asks, room_asks, send_asks}
use Rattle.hurd_core.specs.Users.{AreUsers, home_of, home_used, reseated}

-- the counts hold of sites and tasks that are the same

module _ (es : List (Name × ℕ)) where
  pub users_still : (a b : NameMap Site) (ts us : List Task) → AreUsers es a ts → b ≡ a → ((s : Name) → count_rights (uses_server a s) us ≡ count_rights (uses_server a s) ts) → AreUsers es b us
  users_still a b ts us all sites tasks s = all s ∙ sym (tasks s) ∙ ap (λ (m : NameMap Site). count_rights (uses_server m s) us) (sym sites)

  -- and where a step of nodes leaves the sites
  pub users_stepped : {T : Type 0} (ts : List Task) (N M : NodeState) (step : Result T Errno × NodeState) (r : Result T Errno) → AreUsers es N.sites ts → Steps N step r M → step.1.sites ≡ N.sites → AreUsers es M.sites ts
  users_stepped ts N M step r all s same = users_still N.sites M.sites ts ts all (ap (λ (K : NodeState). K.sites) s.left ∙ by (lacks_memory r)) (λ q. refl)
    where
      by : (b : Bool) → (cond b N step.1).sites ≡ N.sites
      by true = refl
      by false = same

-- 2^128 - 1, the most that can be counted
abbrev most_count : ℕ
most_count = 340282366920938463463374607431768211455

-- one user more is counted, where there is one, and the count fits
pub user_fits : (es fs : List (Name × ℕ)) (sites : NameMap Site) (ts us : List Task) (o : Option Name) → AreUsers es sites ts → fs ≡ es → ((s : Name) → count_rights (uses_server sites s) us ≡ count_rights (uses_server sites s) ts + one_if (is_one s o))
    → ((T : Right → Bool) → count_rights T us ≤ most_counted) → IfSome o (λ s. counted fs s + 1 ≤ most_count)
user_fits es fs sites ts us None all kept more few = tt
user_fits es fs sites ts us (Some s) all kept more few = let one = ap one_if (same_name-itself s) in rw kept (omega (arith, all s, more s, one, few (uses_server sites s)))

pub user_counted : (es fs gs : List (Name × ℕ)) (sites : NameMap Site) (ts us : List Task) (o : Option Name) → AreUsers es sites ts → fs ≡ es → ((s : Name) → count_rights (uses_server sites s) us ≡ count_rights (uses_server sites s) ts + one_if (is_one s o))
    → ((s : Name) → counted gs s ≡ counted fs s + one_if (is_one s o)) → AreUsers gs sites us
user_counted es fs gs sites ts us o all kept more added s = added s ∙ ap (λ (l : List (Name × ℕ)). counted l s + one_if (is_one s o)) kept ∙ ap (λ (k : ℕ). k + one_if (is_one s o)) (all s) ∙ sym (more s)

-- what a right says of its server
pub home_told : (sites : NameMap Site) (s : Name) (r : Right) → uses_server sites s r ≡ is_one s (home_used sites r)
home_told sites s (Io r) = refl
home_told sites s (Control q) = refl
home_told sites s (Start n) = refl

-- a task that was asked for room is there
asked_task : (w : World) (t k : ℕ) (x : Task) → room_asks w t k ≡ Ok x → task_at w t ≡ Some x
asked_task w t k x asked =
    let a = on_ok ESRCH (task_at w t) (λ (z : Task). given EOVERFLOW (has_room k z) (Ok z)) x asked in
    let same = (given_ok EOVERFLOW (has_room k a.0) (Ok a.0) x a.2).1 in
    let is : a.0 ≡ x = cc in
    a.1 ∙ ap Some is

-- calls on ports

module _ (N : NodeState) (H K : PortState) (t : ℕ) where
  abbrev w : World
  w = world_from N H

  -- a port more, with an open of its own
  pub inserted_counts : (T : Right → Bool) (n : Name) (ids : IdSets) (parents : List Parent) (modes : OpenFlags) (k : ℕ) (c : Bool) → ((x : Task) → T (new_right t n ids parents x) ≡ c)
      → Does w (room_asks w t 1) (λ x. opening t x n ids parents modes) (λ x. x.next) (Ok k) (world_from N K) → count_rights T K.tasks ≡ count_rights T H.tasks + one_if c
  inserted_counts T n ids parents modes k c test d =
      let x = d.0 in
      let r = new_right t n ids parents x in
      let there = edit-here t (named 1) H.tasks ∙ ap (option_map (named 1)) (asked_task w t 1 x d.1) in
      let one = port_weighs (λ z. one_if (T z)) r (named 1 x) ∙ ap (λ (b : Bool). count_list T (rights_of (named 1 x)) + one_if b) (test x) in
      ap (λ (z : World). count_rights T z.tasks) d.3
      ∙ count_more T t (with_port r) (edit_task t (named 1) H.tasks) (named 1 x) (one_if c) there one ∙ ap (λ (j : ℕ). j + one_if c) (count_named T t 1 H.tasks)

  module _ (s : Name) where
    abbrev T : Right → Bool
    T = uses_server N.sites s

    -- as many as the server of the node of a right has users, where a right more passes
    told_more : (r : Right) → count_rights T H.tasks + one_if (T r) ≡ count_rights T H.tasks + one_if (is_one s (home_used N.sites r))
    told_more r = ap (λ (b : Bool). count_rights T H.tasks + one_if b) (home_told N.sites s r)

    -- one more, with an open that is another's too
    pub shared_users : (r : Right) (k : ℕ) → Does w (room_asks w t 0) (λ x. EditTask t (with_port r) ∷ []) (λ x. x.next) (Ok k) (world_from N K)
        → count_rights T K.tasks ≡ count_rights T H.tasks + one_if (is_one s (home_used N.sites r))
    shared_users r k d =
        ap (λ (z : World). count_rights T z.tasks) d.3
        ∙ count_more T t (with_port r) H.tasks d.0 (one_if (T r)) (asked_task w t 0 d.0 d.1) (port_weighs (λ z. one_if (T z)) r d.0) ∙ told_more r

    -- a right sent
    pub sent_users : (p q : ℕ) (r : Right) (u : Unit {0}) → send_asks w t p q ≡ Ok r → Does w (send_asks w t p q) (λ r. Send r q ∷ []) (λ r. tt {0}) (Ok u) (world_from N K)
        → count_rights T K.tasks ≡ count_rights T H.tasks + one_if (is_one s (home_used N.sites r))
    sent_users p q r u asked d =
        let same : Ok d.0 ≡ Ok r = sym d.1 ∙ asked in
        let is : d.0 ≡ r = cc in
        let to = first_ok (right_of H t p) (λ (z : Right). given ESRCH (nat_lt q (length H.tasks)) (Ok z)) r asked in
        let there = task_there w q (given_ok ESRCH (nat_lt q (length H.tasks)) (Ok to.0) r to.2).0 in
        ap (λ (z : World). count_rights T z.tasks) d.3
        ∙ ap (λ (z : Right). count_rights T (edit_task q (with_sent z) H.tasks)) is
        ∙ count_more T q (with_sent r) H.tasks there.0 (one_if (T r)) there.1 (count_sent T r there.0) ∙ told_more r

    -- the first right of an inbox as a port
    pub received_users : (got : Result ℕ Errno) → Does w (receive_asks w t) (λ x. EditTask t received ∷ []) (λ x. x.next) got (world_from N K) → count_rights T K.tasks ≡ count_rights T H.tasks
    received_users (Ok k) d = ap (λ (z : World). count_rights T z.tasks) d.3 ∙ count_still T t received H.tasks (λ x. received_counts T x)
    received_users (Err e) d = ap (λ (z : World). count_rights T z.tasks) d.0

  -- a port given up
  pub dropped_counts : (s : Name) (p : ℕ) (u : Unit {0}) → deallocate_step t p H ≡ (Ok u, K)
      → count_rights (T s) K.tasks + if_so (is_one s (home_of N.sites (right_of H t p))) 1 ≡ count_rights (T s) H.tasks
  dropped_counts s p u = at (slice_get H.tasks t) refl
    where
      Lost : Result Right Errno → Type 0
      Lost o = count_rights (T s) K.tasks + if_so (is_one s (home_of N.sites o)) 1 ≡ count_rights (T s) H.tasks

      under : (x : Task) → slice_get H.tasks t ≡ Some x → (o : Option Right) → right_in p x.ports ≡ o → dropped H t p o ≡ (Ok u, K) → Lost (or_refuse EBADF o)
      under x is None e h = let no : Err EBADF ≡ Ok u = ap (λ (z : Result (Unit {0}) Errno × PortState). z.0) h in absurd (cc (no))
      under x is (Some r) e h =
          let left = ap (λ (z : Result (Unit {0}) Errno × PortState). count_rights (T s) z.1.tasks) h in
          let all = count_edit (T s) t (without_port p) H.tasks x is in
          let one = weigh_dropped (λ z. one_if (T s z)) p x r e in
          let told = ap one_if (home_told N.sites s r) in
          omega arith

      at : (o : Option Task) → slice_get H.tasks t ≡ o → deallocate_at H t p o ≡ (Ok u, K) → Lost (right_at p o)
      at None is h = let no : Err ESRCH ≡ Ok u = ap (λ (z : Result (Unit {0}) Errno × PortState). z.0) h in absurd (cc (no))
      at (Some x) is h = under x is (right_in p x.ports) refl h

-- calls on ports by which nothing is counted

module _ (T : Right → Bool) (H : PortState) (t : ℕ) where
  pub take_ids_same : (ids : IdSets) → count_rights T (take_ids_step t ids H).1.tasks ≡ count_rights T H.tasks
  take_ids_same ids = at (slice_get H.tasks t)
    where
      at : (o : Option Task) → count_rights T (take_ids_at H t ids o).1.tasks ≡ count_rights T H.tasks
      at None = refl
      at (Some x) = count_still T t (with_ids ids) H.tasks (λ y. refl)

  pub pend_same : ((n : Name) → T (Start n) ≡ false) → (p : Option PendingStart) → count_rights T (pend_step t p H).1.tasks ≡ count_rights T H.tasks
  pend_same out p = at (slice_get H.tasks t)
    where
      at : (o : Option Task) → count_rights T (pend_at H t p o).1.tasks ≡ count_rights T H.tasks
      at None = refl
      at (Some x) = count_still T t (with_pending p) H.tasks (λ y. pending_counts T out p y)

-- a node that gets another server

pub zero_if : (b : Bool) → if_so b 0 ≡ 0
zero_if true = refl
zero_if false = refl

pub more_if : (b : Bool) (k j : ℕ) → if_so b (k + j) ≡ if_so b k + if_so b j
more_if true k j = refl
more_if false k j = refl

module _ (a b : NameMap Site) (n : Name) (others : (m : Name) → m ≢ n → home_in b m ≡ home_in a m) (s : Name) (ts : List Task) where
  abbrev was : Bool
  was = is_one s (home_in a n)

  abbrev now : Bool
  now = is_one s (home_in b n)

  each : (r : Right) → one_if (uses_server b s r) + if_so was (one_if (uses_node n r)) ≡ one_if (uses_server a s r) + if_so now (one_if (uses_node n r))
  each (Io r) = elim (same_or_apart n r.node) [
    | inl e ↦ rw (sym e, same_name-itself n) (omega arith)
    | inr apart ↦ rw (same_name-apart n r.node apart, others r.node (λ e. apart (sym e))) (omega (arith, zero_if was, zero_if now))
  ]
  each (Control q) = omega (arith, zero_if was, zero_if now)
  each (Start m) = omega (arith, zero_if was, zero_if now)

  scaled : (c : Bool) → weigh_rights (λ r. if_so c (one_if (uses_node n r))) ts ≡ if_so c (count_rights (uses_node n) ts)
  scaled true = refl
  scaled false = none_counted ts

  -- its users count for the new one, and for the old one no more
  pub moved : count_rights (uses_server b s) ts + if_so was (count_rights (uses_node n) ts) ≡ count_rights (uses_server a s) ts + if_so now (count_rights (uses_node n) ts)
  moved =
      let left = weigh_both (λ r. one_if (uses_server b s r)) (λ r. if_so was (one_if (uses_node n r))) ts in
      let right = weigh_both (λ r. one_if (uses_server a s r)) (λ r. if_so now (one_if (uses_node n r))) ts in
      let both =
      weigh_alike (λ r. one_if (uses_server b s r) + if_so was (one_if (uses_node n r))) (λ r. one_if (uses_server a s r) + if_so now (one_if (uses_node n r))) each ts in
      omega (arith, scaled was, scaled now, left, right, both)

-- they are among the users of the old one
pub uses_most : (sites : NameMap Site) (n s : Name) (ts : List Task) → if_so (is_one s (home_in sites n)) (count_rights (uses_node n) ts) ≤ count_rights (uses_server sites s) ts
uses_most sites n s ts =
    let all = moved sites (remove sites n) n (λ m apart. home-less_apart sites n m apart) s ts in
    let none : if_so (is_one s (home_in (remove sites n) n)) (count_rights (uses_node n) ts) ≡ 0 = ap (λ (o : Option Name). if_so (is_one s o) (count_rights (uses_node n) ts)) (home-less sites n) in
    omega arith

-- the counts after that, where so many rights to use it came
module _ (a b : NameMap Site) (n : Name) (others : (m : Name) → m ≢ n → home_in b m ≡ home_in a m) (ts us : List Task) (k : ℕ) (before now : NodeUse)
    (was_at : before.server ≡ home_in a n) (was_used : before.uses ≡ count_rights (uses_node n) ts) where
  pub unhoused_fits : (es fs : List (Name × ℕ)) → AreUsers es a ts → fs ≡ es → (s : Name) → if_so (is_one s before.server) before.uses ≤ counted fs s
  unhoused_fits es fs all kept s = rw (was_at, was_used, kept) (omega (arith, uses_most a n s ts, all s))

  pub rehoused : now.server ≡ home_in b n → now.uses ≡ count_rights (uses_node n) us → count_rights (uses_node n) us ≡ count_rights (uses_node n) ts + k
      → ((s : Name) → count_rights (uses_server b s) us ≡ count_rights (uses_server b s) ts + if_so (is_one s (home_in b n)) k) → (es fs gs : List (Name × ℕ)) → AreUsers es a ts → fs ≡ es
      → ((s : Name) → counted gs s + if_so (is_one s before.server) before.uses ≡ counted fs s + if_so (is_one s now.server) now.uses) → AreUsers gs b us
  rehoused now_at now_used more came es fs gs all kept counts s =
      let same = rw (was_at, was_used, now_at, now_used ∙ more, kept) at counts s in
      omega (arith, moved a b n others s ts, all s, came s, same, more_if (is_one s (home_in b n)) (count_rights (uses_node n) ts) k)

-- a node made in a directory leaves the other sites
pub made_apart : (n : Name) (o : Option Name) (sites : NameMap Site) (m : Name) → m ≢ n → home_in (with_home n o sites) m ≡ home_in sites m
made_apart n None sites m apart = refl
made_apart n (Some s) sites m apart = home-apart sites n (new_site s) m apart

-- servers that go

module _ (sites : NameMap Site) (ts : List Task) (p : Name) where
  abbrev sited : World
  sited = record { nodes = empty; sites = sites; servers = empty; opens = empty; tasks = ts }

  -- one that went has no users, and each other one has those that it had
  pub users_left : (s : Name) → count_rights (uses_server (without_sites p sites) s) ts ≡ (if same_name s p then 0 else count_rights (uses_server sites s) ts)
  users_left s = elim (same_or_apart s p) [
    | inl e ↦ rw (e, same_name-itself p) (users_gone sited p)
    | inr apart ↦ rw (same_name-apart s p apart) (users_apart sited p s apart)
  ]

  pub users_forgotten : (es fs : List (Name × ℕ)) → AreUsers es sites ts → ((s : Name) → counted fs s ≡ (if same_name s p then 0 else counted es s)) → AreUsers fs (without_sites p sites) ts
  users_forgotten es fs all same s = same s ∙ by (same_name s p) ∙ sym (users_left s)
    where
      by : (b : Bool) → (if b then 0 else counted es s) ≡ (if b then 0 else count_rights (uses_server sites s) ts)
      by true = refl
      by false = all s

  -- a node of another server is as it was
  home_left : (n s : Name) → s ≢ p → is_one s (home_in (without_sites p sites) n) ≡ is_one s (home_in sites n)
  home_left n s apart = same_bool _ _ (λ h. ap (is_one s) (home-was sites p n s (home_is s _ h)) ∙ same_name-itself s) (λ h. ap (is_one s) (home-stays sites p n s apart (home_is s _ h)) ∙ same_name-itself s)

-- sites that say the same homes have the same users
pub users_alike : (a b : NameMap Site) (s : Name) (ts : List Task) → ((n : Name) → home_in b n ≡ home_in a n) → count_rights (uses_server b s) ts ≡ count_rights (uses_server a s) ts
users_alike a b s ts homes = weigh_alike (λ r. one_if (uses_server b s r)) (λ r. one_if (uses_server a s r)) each ts
  where
    each : (r : Right) → one_if (uses_server b s r) ≡ one_if (uses_server a s r)
    each (Io r) = ap (λ (o : Option Name). one_if (is_one s o)) (homes r.node)
    each (Control q) = refl
    each (Start n) = refl

pub users_homes : (es : List (Name × ℕ)) (a b : NameMap Site) (ts : List Task) → AreUsers es a ts → ((n : Name) → home_in b n ≡ home_in a n) → AreUsers es b ts
users_homes es a b ts all homes s = all s ∙ sym (users_alike a b s ts homes)

-- a server that comes, for which another may leave

module _ (N : NodeState) (ts : List Task) (s : Name) where
  abbrev left : Option Name → NameMap Site
  left o = (without_old o N).sites

  users_stay : (o : Option Name) → count_rights (uses_server (left o) s) ts ≡ (if is_one s o then 0 else count_rights (uses_server N.sites s) ts)
  users_stay None = refl
  users_stay (Some q) = users_left N.sites ts q s

  home_stays : (o : Option Name) (n : Name) → is_one s (home_in (left o) n) ≡ (if is_one s o then false else is_one s (home_in N.sites n))
  home_stays None n = refl
  home_stays (Some q) n = elim (same_or_apart s q) [
    | inl e ↦ rw (e, same_name-itself q) (not_home q (home_in (without_sites q N.sites) n) (none-left N.sites q n))
    | inr apart ↦ rw (same_name-apart s q apart) (home_left N.sites ts q n s apart)
  ]

  module _ (instead : Option Name) (p at : Name) (i : ServerInfo) (node : Node) where
    abbrev bare : NameMap Site
    bare = without_sites p (left instead)

    abbrev rooted : NameMap Site
    rooted = insert bare i.root (new_site p)

    abbrev uses : ℕ
    uses = count_rights (uses_node i.root) ts

    came : count_rights (uses_server (attached p at i node (without_old instead N)).sites s) ts + if_so (is_one s (home_in bare i.root)) uses ≡ count_rights (uses_server bare s) ts + if_so (same_name s p) uses
    came =
        let seat = users_alike rooted (edit at (with_active (Some p)) rooted) s ts (home-edited rooted at (Some p)) in
        let root = moved bare rooted i.root (λ m apart. home-apart bare i.root (new_site p) m apart) s ts in
        let new : if_so (is_one s (home_in rooted i.root)) uses ≡ if_so (same_name s p) uses = ap (λ (o : Option Name). if_so (is_one s o) uses) (home-here bare i.root (new_site p)) in
        omega arith

    pub users_reseated : (k : ℕ) → k ≡ count_rights (uses_server N.sites s) ts → reseated (home_in N.sites i.root) uses instead p s k ≡ count_rights (uses_server (attached p at i node (without_old instead N)).sites s) ts
    users_reseated k is = elim (same_or_apart s p) [
      | inl e ↦
          let gone : is_one s (home_in bare i.root) ≡ false = rw e (not_home p (home_in bare i.root) (none-left (left instead) p i.root)) in
          let none : if_so (is_one s (home_in bare i.root)) uses ≡ 0 = ap (λ (b : Bool). if_so b uses) gone in
          let own : same_name s p ≡ true = rw e (same_name-itself p) in
          let nobody = users_left (left instead) ts p s ∙ ap (λ (b : Bool). if b then 0 else count_rights (uses_server (left instead) s) ts) own in
          let root : if_so (same_name s p) uses ≡ uses = ap (λ (b : Bool). if_so b uses) own in
          rw own (omega (arith, came))
      | inr apart ↦
          let other = same_name-apart s p apart in
          let others = users_left (left instead) ts p s ∙ ap (λ (b : Bool). if b then 0 else count_rights (uses_server (left instead) s) ts) other ∙ users_stay instead in
          let none : if_so (same_name s p) uses ≡ 0 = ap (λ (b : Bool). if_so b uses) other in
          let home = home_left (left instead) ts p i.root s apart ∙ home_stays instead i.root in
          rw other (by (is_one s instead) others (ap (λ (b : Bool). if_so b uses) home) none)
    ]
      where
        by : (b : Bool) → count_rights (uses_server bare s) ts ≡ (if b then 0 else count_rights (uses_server N.sites s) ts)
            → if_so (is_one s (home_in bare i.root)) uses ≡ if_so (if b then false else is_one s (home_in N.sites i.root)) uses → if_so (same_name s p) uses ≡ 0
            → (if b then 0 else k - if_so (is_one s (home_in N.sites i.root)) uses) ≡ count_rights (uses_server (attached p at i node (without_old instead N)).sites s) ts
        by true others home none = omega (arith, came)
        by false others home none = omega (arith, came, is)

-- the first world's only node is the boot root, so all its users are the boot server's
pub users_begun : (m : Meaning) (es : List (Name × ℕ)) (ts : List Task) → m.nodes ≡ empty → ((s : Name) → counted es s ≡ if_so (same_name s boot_name) (count_rights (uses_node boot_name) ts)) → AreUsers es (state_of (booted m)).sites ts
users_begun m es ts bare same s =
    let only = ap (λ (ns : NodeMap). map_values (λ (x : Node). new_site boot_name) (insert ns boot_name root)) bare ∙ one-mapped (λ (x : Node). new_site boot_name) boot_name root in
    let none = nobody ts in
    let one = moved empty (insert empty boot_name (new_site boot_name)) boot_name (λ q apart. home-apart empty boot_name (new_site boot_name) q apart) s ts in
    let old : if_so (is_one s (home_in empty boot_name)) (count_rights (uses_node boot_name) ts) ≡ 0 = ap (λ (o : Option Site). if_so (is_one s (option_map (λ (r : Site). r.home) o)) (count_rights (uses_node boot_name) ts)) (get-empty name_cmp boot_name) in
    let new : if_so (is_one s (home_in (insert empty boot_name (new_site boot_name)) boot_name)) (count_rights (uses_node boot_name) ts) ≡ if_so (same_name s boot_name) (count_rights (uses_node boot_name) ts) =
    ap (λ (o : Option Name). if_so (is_one s o) (count_rights (uses_node boot_name) ts)) (home-here empty boot_name (new_site boot_name)) in
    same s ∙ (let there : count_rights (uses_server (insert empty boot_name (new_site boot_name)) s) ts ≡ if_so (same_name s boot_name) (count_rights (uses_node boot_name) ts) = omega arith in sym there) ∙ ap (λ (k : NameMap Site). count_rights (uses_server k s) ts) (sym only)
  where
    root : Node
    root = new_root (behaviour_of m.kind) m.text 0 0 boot_mode

    each : (r : Right) → one_if (uses_server empty s r) ≡ 0
    each (Io r) = ap (λ (o : Option Site). one_if (is_one s (option_map (λ (z : Site). z.home) o))) (get-empty name_cmp r.node)
    each (Control q) = refl
    each (Start n) = refl

    nobody : (ts : List Task) → count_rights (uses_server empty s) ts ≡ 0
    nobody ts = weigh_alike (λ r. one_if (uses_server empty s r)) (λ r. 0) each ts ∙ none_counted ts
