-- What is counted of the names that rights have.
use Rattle.std.proofs.Common.{◌≡◌, ℕ, zero, suc, ◌+◌, ◌*◌, ◌<◌, ◌≤◌, ◌||◌, List, [], ◌∷◌, ◌++◌, Bool, true, false, map, length, drop, refl, sym, ap, ◌∙◌, arith, add-one, length-append}
use Rattle.std.proofs.lemmas.List.{drop_all, length-map, length-set}
use Rattle.std.specs.Prelude.{Option, Some, None, slice_get, slice_set, slice_index_or, nat_lt}
use Rattle.hurd_creds.specs.Names.{same_name}
use Rattle.hurd_creds.specs.Limits.{most_tasks}
use Rattle.hurd_creds.specs.declared.name.Name.{Name}
use Rattle.hurd_creds.specs.Access.{IdSets}
use Rattle.hurd_creds.proofs.NameLaws.{name_turned, same_name-itself}
use Rattle.hurd_ports.specs.declared.book.Book.{Book}
use Rattle.hurd_ports.specs.declared.parents.Parent.{Parent}
use Rattle.hurd_ports.specs.declared.table.PendingStart.{PendingStart}
use Rattle.hurd_ports.specs.declared.table.Port.{Port}
use Rattle.hurd_ports.specs.declared.table.Right.{Right}
use Rattle.hurd_ports.specs.declared.table.Right.TheVariants.{Io, Control, Start}
use Rattle.hurd_ports.specs.declared.table.TaskSeat.{TaskSeat}
use Rattle.hurd_creds.specs.Weights.{count_list, one_if, weigh_list}
use Rattle.hurd_ports.specs.Tables.{Task, count_rights, is_controlled, is_held, is_named, names_node, names_open, names_server, nodes_of, rights_of, start_of, uses_node, ways_of, weigh_rights}
use Rattle.hurd_ports.specs.Steps.{new_task}
use Rattle.hurd_ports.specs.Counts.{AreCounted, Besides, Opens, Servers, Sort, Uses, count_of, excess, most_counted, naming}
use Rattle.hurd_ports.specs.Seats.{seat_task, tasks_of}
use Rattle.hurd_ports.proofs.SeatLaws.{seat-there, seat-changed}
use Rattle.hurd_ports.proofs.HeldLaws.{held_counted, one_told}
use Rattle.hurd_ports.proofs.WeightLaws.{either_weighed, list_weighed, tasks_weighed, weigh_alike, weigh_append, weigh_at, weigh_both, weigh_bound, weigh_set}

-- what ways name, from one on
abbrev pub names_from : (Name → Bool) → ℕ → List Parent → ℕ
names_from p i ws = count_list p (ways_of (drop i ws))

next_one : (p : Name → Bool) (ws : List Parent) (i : ℕ) (d : Parent) → i < length ws → names_from p i ws ≡ one_if (p (slice_index_or ws i d).at) + (one_if (p (slice_index_or ws i d).parent) + names_from p (suc i) ws)
next_one p [] i d below = absurd (omega arith)
next_one p (v ∷ ws) zero d below = refl
next_one p (v ∷ ws) (suc i) d below = next_one p ws i d (omega arith)

pub ways_next : (p : Name → Bool) (ws : List Parent) (i : ℕ) (d : Parent) → i < length ws → names_from p i ws ≡ one_if (p (slice_index_or ws i d).at) + (one_if (p (slice_index_or ws i d).parent) + names_from p (i + 1) ws)
ways_next p ws i d below = rw (add-one i) (next_one p ws i d below)

-- from the end on, none
pub ways_end : (p : Name → Bool) (ws : List Parent) (i : ℕ) → length ws ≤ i → names_from p i ws ≡ 0
ways_end p ws i end = ap (λ (l : List Parent). count_list p (ways_of l)) (drop_all i ws end)

-- a name names itself once
pub one_itself : (n : Name) → one_if (same_name n n) ≡ 1
one_itself n = ap one_if (same_name-itself n)

-- ways name a thing at most twice each
pub one_at_most : (b : Bool) → one_if b ≤ 1
one_at_most true = omega arith
one_at_most false = omega arith

pub ways_most : (p : Name → Bool) (ws : List Parent) → count_list p (ways_of ws) ≤ length ws + length ws
ways_most p [] = omega arith
ways_most p (w ∷ ws) = omega (arith, ways_most p ws, one_at_most (p w.at), one_at_most (p w.parent))

-- whether a right names something is told by how often it does

pub opens_told : (n : Name) (r : Right) → one_if (names_open n r) ≡ naming Opens n r
opens_told n (Io r) = omega (arith, ap one_if (name_turned r.open_name n))
opens_told n (Control s) = refl
opens_told n (Start m) = refl

uses_told : (n : Name) (r : Right) → one_if (uses_node n r) ≡ naming Uses n r
uses_told n (Io r) = omega arith
uses_told n (Control s) = refl
uses_told n (Start m) = refl

nodes_told : (n : Name) (r : Right) → names_node n r ≡ nat_lt 0 (naming Uses n r + naming Besides n r)
nodes_told n r = list_weighed (λ m. same_name n m) (λ m. one_if (same_name n m)) (λ m. one_told (same_name n m)) (nodes_of r) ∙ ap (nat_lt 0) (parts r)
  where
    parts : (r : Right) → count_list (same_name n) (nodes_of r) ≡ naming Uses n r + naming Besides n r
    parts (Io r) = omega arith
    parts (Control s) = refl
    parts (Start m) = omega arith

servers_told : (n : Name) (r : Right) → names_server n r ≡ nat_lt 0 (naming Servers n r)
servers_told n (Io r) = refl
servers_told n (Control s) = one_told (same_name n s) ∙ ap (nat_lt 0) (omega arith)
servers_told n (Start m) = refl

-- and the same of all rights

pub named-counted : (ts : List Task) (n : Name) → is_named ts n ≡ (nat_lt 0 (weigh_rights (naming Uses n) ts) || nat_lt 0 (weigh_rights (naming Besides n) ts))
unfolding is_named
named-counted ts n =
    tasks_weighed (names_node n) (λ r. naming Uses n r + naming Besides n r) (nodes_told n) ts
    ∙ ap (nat_lt 0) (weigh_both (naming Uses n) (naming Besides n) ts) ∙ sym (either_weighed (weigh_rights (naming Uses n) ts) (weigh_rights (naming Besides n) ts))

pub uses-counted : (ts : List Task) (n : Name) → count_rights (uses_node n) ts ≡ weigh_rights (naming Uses n) ts
uses-counted ts n = weigh_alike (λ r. one_if (uses_node n r)) (naming Uses n) (uses_told n) ts

pub controlled-counted : (ts : List Task) (n : Name) → is_controlled ts n ≡ nat_lt 0 (weigh_rights (naming Servers n) ts)
unfolding is_controlled
controlled-counted ts n = tasks_weighed (names_server n) (naming Servers n) (servers_told n) ts

pub opens-counted : (ts : List Task) (n : Name) → count_rights (names_open n) ts ≡ weigh_rights (naming Opens n) ts
opens-counted ts n = weigh_alike (λ r. one_if (names_open n r)) (naming Opens n) (opens_told n) ts

pub held-counted : (ts : List Task) (n : Name) → is_held ts n ≡ nat_lt 0 (weigh_rights (naming Opens n) ts)
held-counted ts n = held_counted ts n ∙ ap (nat_lt 0) (opens-counted ts n)

module _ (b l : Book) (ss : List TaskSeat) (t : ℕ) (s new : TaskSeat) (at : slice_get ss t ≡ Some s) (counts : AreCounted b (tasks_of ss)) where
  changed : (W : Right → ℕ) → weigh_rights W (tasks_of (slice_set ss t new)) + weigh_list W (rights_of (seat_task s)) ≡ weigh_rights W (tasks_of ss) + weigh_list W (rights_of (seat_task new))
  changed W =
      ap (λ (ts : List Task). weigh_rights W ts + weigh_list W (rights_of (seat_task s))) (seat-changed ss t new (seat_task new) refl)
      ∙ weigh_set W (tasks_of ss) t (seat_task s) (seat_task new) (seat-there ss t s at)

  few_still : length (tasks_of (slice_set ss t new)) ≤ most_tasks
  few_still = omega (arith, counts.few, length-map ss seat_task, length-map (slice_set ss t new) seat_task, length-set ss t new)

  -- where some rights of a task go and others come
  pub counted-changed : (gone come : List Right) → ((W : Right → ℕ) → weigh_list W (rights_of (seat_task new)) + weigh_list W gone ≡ weigh_list W (rights_of (seat_task s)) + weigh_list W come) → weigh_list excess come ≡ 0
      → ((k : Sort) (n : Name) → count_of k n l + weigh_list (naming k n) gone ≡ count_of k n b + weigh_list (naming k n) come) → AreCounted l (tasks_of (slice_set ss t new))
  counted-changed gone come rights fine same = record {
    all = λ k n. omega (arith, changed (naming k n), rights (naming k n), same k n, counts.all k n);
    few = few_still;
    short = omega (arith, changed excess, rights excess, fine, counts.short);
  }

-- a count fits

-- a right whose ways are short names a thing 129 times at most; no more is asked here of what rights weigh
naming_most : (k : Sort) (n : Name) (r : Right) → excess r ≡ 0 → naming k n r ≤ 129
naming_most Opens n (Io r) short = omega (arith, one_at_most (same_name n r.open_name))
naming_most Opens n (Control s) short = omega arith
naming_most Opens n (Start m) short = omega arith
naming_most Uses n (Io r) short = omega (arith, one_at_most (same_name n r.node))
naming_most Uses n (Control s) short = omega arith
naming_most Uses n (Start m) short = omega arith
naming_most Besides n (Io r) short = omega (arith, ways_most (same_name n) r.parents)
naming_most Besides n (Control s) short = omega arith
naming_most Besides n (Start m) short = omega (arith, one_at_most (same_name n m))
naming_most Servers n (Io r) short = omega arith
naming_most Servers n (Control s) short = omega (arith, one_at_most (same_name n s))
naming_most Servers n (Start m) short = omega arith

-- a seat in memory has fewer than 2^64 rights
rights_few : (s : TaskSeat) → length (rights_of (seat_task s)) ≤ 18446744073709551615
rights_few s =
    let ported : List Right = map (λ (p : Port). p.right) s.ports.items in
    let all = length-append (start_of s.pending) (ported ++ s.inbox.items) in
    let rest = length-append ported s.inbox.items in
    let ports : length ported ≡ length s.ports.items = length-map s.ports.items (λ (p : Port). p.right) in
    let start = started s.pending in
    omega (arith, s.inbox.ok.0, s.inbox.ok.1, s.inbox.small, s.ports.ok.0, s.ports.ok.1, s.ports.small)
  where
    started : (p : Option PendingStart) → length (start_of p) ≤ 1
    started None = omega arith
    started (Some x) = omega arith

seats_few : (W : Right → ℕ) → ((r : Right) → excess r ≡ 0 → W r ≤ 129) → (ss : List TaskSeat) → weigh_rights excess (tasks_of ss) ≡ 0 → weigh_rights W (tasks_of ss) ≤ length ss * 2379629985508532158464
seats_few W each [] short = omega arith
seats_few W each (s ∷ ss) short =
    let one = weigh_bound W excess 129 each (rights_of (seat_task s)) (omega arith) in
    let few = rights_few s in
    let rest = seats_few W each ss (omega arith) in
    omega arith

module _ (b : Book) (ss : List TaskSeat) (counts : AreCounted b (tasks_of ss)) where
  pub counts-fit : (k : Sort) (n : Name) → count_of k n b ≤ most_counted
  counts-fit k n = omega (arith, seats_few (naming k n) (naming_most k n) ss counts.short, counts.all k n, counts.few, length-map ss seat_task)

  -- so does a count of rights that pass a test
  pub rights-fit : (T : Right → Bool) → count_rights T (tasks_of ss) ≤ most_counted
  rights-fit T = omega (arith, seats_few (λ r. one_if (T r)) (λ r short. omega (arith, one_at_most (T r))) ss counts.short, counts.few, length-map ss seat_task)

-- the right that a pending start is, is counted
pub start-counted : (b : Book) (ss : List TaskSeat) (t : ℕ) (s : TaskSeat) → slice_get ss t ≡ Some s → AreCounted b (tasks_of ss) → (k : Sort) (n : Name) → weigh_list (naming k n) (start_of s.pending) ≤ count_of k n b
start-counted b ss t s at counts k n =
    let own : List Right = map (λ (p : Port). p.right) s.ports.items ++ s.inbox.items in
    let parts = weigh_append (naming k n) (start_of s.pending) own in
    omega (arith, weigh_at (naming k n) (tasks_of ss) t (seat_task s) (seat-there ss t s at), counts.all k n)

-- tasks that begin have no rights
pub counted-starting : (ss : List TaskSeat) (ids : List IdSets) (next : ℕ) (b : Book) → ((k : Sort) (n : Name) → count_of k n b ≡ 0) → tasks_of ss ≡ map (new_task next) ids → length ids ≤ most_tasks → AreCounted b (tasks_of ss)
counted-starting ss ids next b none seats few = rw seats (record {
  all = λ k n. none k n ∙ sym (nothing (naming k n) ids);
  few = omega (arith, few, length-map ids (new_task next));
  short = nothing excess ids;
})
  where
    nothing : (W : Right → ℕ) (ids : List IdSets) → weigh_rights W (map (new_task next) ids) ≡ 0
    nothing W [] = refl
    nothing W (i ∷ ids) = omega (arith, nothing W ids)
