-- A port on a node with a new open, and a port that goes: as pieces of any call.
use Rattle.std.proofs.Common.{◌≡◌, ◌⊎◌, ℕ, ◌<◌, ◌≤◌, Bool, true, false, List, [], ◌∷◌, Some, nat_lt, sym, refl, ◌∙◌, ap, subst, inl, inr, arith}
use Rattle.hurd_machine.proofs.Common.{Below, CanBeWritten, Change, Coherent, Control, EditOpen, EditTask, IdSets, Io, IoRight, IsAmong, IsSettled, MakeOpen, Name, NodeState, OnDrop, OnRight, OpenFlags, OpenMap, OpenOf, Opened, Part, Right, Sound, Start, Task, TaskOf, UsersOf, WRITE, World, apply, apply_all, asks, count_rights, counts_at, counts_by, dropping, edit_task, fresh, get, insert, is_held, is_on, letting_go, names_open, new_open, new_right, open_at, open_of, opening, ports_of, right_in, rights_of, server_of, task_at, ways_of, without_port, EndsOf}
use Rattle.hurd_creds.proofs.NameLaws.{equal_if_same, get_here}
use Rattle.hurd_creds.proofs.AppendLaws.{append_read, append_write}
use Rattle.hurd_ports.specs.declared.parents.Parent.{Parent as Pair}
use Rattle.hurd_ports.specs.Steps.{named, at_cursor, appending}
use Rattle.hurd_ports.proofs.HeldLaws.{held_counted}
use Rattle.hurd_machine.specs.World.{nodes_of}
use Rattle.hurd_machine.specs.Touched.{OnOpen}
use Rattle.hurd_machine.proofs.Tasks.{count_edit, edit_here}
use Rattle.hurd_machine.proofs.Coherence.{IsNext, CanBeNamed, FineRight, KeepsEnds, AllProper, settled_held, was_settled}
use Rattle.hurd_machine.proofs.Naming.{named_below, named_still}
use Rattle.hurd_machine.proofs.Rights.{port_counts, port_table, right_under, without_counts, without_rights, without_table}
use Rattle.hurd_machine.proofs.Frame.{Covers, Within, AllWithin, Full, not_on, not_named}
use Rattle.hurd_machine.proofs.Several.{AllMay}
use Rattle.hurd_machine.proofs.Confine.{Known}
use Rattle.hurd_machine.proofs.Held.{held_one}
use Rattle.hurd_machine.proofs.Filled.{AreOfPorts}
use Rattle.hurd_machine.proofs.Piece.{Stands, Piece, Whole, stands, settled, quiet, of_ports}
use Rattle.hurd_machine.proofs.Permits.{AllExact}
use Rattle.hurd_machine.proofs.Settle.{held_opening}

-- what a call of task t may write anyway: its own task, and what has a name that it has still to give

pub own_task : (w : World) (t : ℕ) (T : Part → Type 0) → Full w t T (TaskOf t)
own_task w t T = inr (inl refl)

-- a name that the task, which stands as x, has still to give
pub still_new : (w : World) (n : Name) (x : Task) → task_at w n.task.0 ≡ Some x → x.made ≤ n.count → Below w n → ⊥
still_new w n x is up b = let low : n.count < x.made = b x is in absurd (omega arith)

pub fresh_new : (w : World) (t : ℕ) (x : Task) → task_at w t ≡ Some x → Below w (fresh t x) → ⊥
fresh_new w t x is = still_new w (fresh t x) x is (omega arith)

pub later_new : (w : World) (t k : ℕ) (x : Task) → task_at w t ≡ Some x → Below w (fresh t (named k x)) → ⊥
later_new w t k x is = still_new w (fresh t (named k x)) x is (omega arith)

pub fresh_next : (w : World) (t : ℕ) (x : Task) → task_at w t ≡ Some x → IsNext w (fresh t x)
fresh_next w t x is = record { seat = x; is_task = is; next = refl }

-- parts that are said of a right
pub covers : (T : Part → Type 0) (w : World) (r : Right) → ((p : Part) → OnRight w r p → T p) → Covers T w r
covers T w (Io r) f = (f (OpenOf r.open_name) (inl refl), λ s e. f (UsersOf s) (inr (s, e, refl)))
covers T w r f = tt

-- a port with a new open

module _ (w : World) (t : ℕ) (x : Task) (is : task_at w t ≡ Some x) (n : Name) (ids : IdSets) (parents : List Pair) (modes : OpenFlags) where
  abbrev new_one : Right
  new_one = new_right t n ids parents x

  abbrev opened : World
  opened = apply (MakeOpen (fresh t x) (new_open n modes)) w

  here : task_at opened t ≡ Some (named 1 x)
  here = edit_here t (named 1) w.tasks x is

  there : get (insert w.opens (fresh t x) (new_open n modes)) (fresh t x) ≡ Some (new_open n modes)
  there = get_here w.opens (fresh t x) (new_open n modes)

  opens_within : (T : Part → Type 0) → T (TaskOf t) → T (OpenOf (fresh t x)) → ((p : Part) → OnOpen w n p → T p) → AllWithin T w (opening t x n ids parents modes)
  opens_within T task open_part parts =
      let cover : Covers T opened new_one = (open_part, λ s e. parts (UsersOf s) (inl (s, e, refl))) in (
        (task, open_part, λ told. parts (EndsOf n) (inr (told, refl))),
        (
          (
            task,
            λ z at. record {
              opens = λ o out. port_counts (names_open o) new_one z (not_named opened o new_one T cover out);
              users = λ s out. port_counts (is_on opened s) new_one z (not_on opened s new_one T cover out);
            },
          ),
          tt,
        ),
      )

  opens_proper : Coherent w → CanBeNamed w n → ((m : Name) → IsAmong m (ways_of parents) → CanBeNamed w m) → (asks modes WRITE ≡ true → CanBeWritten w n) → AllProper w (opening t x n ids parents modes)
  opens_proper c made up writes = ((fresh_next w t x is, made.0), λ d. ((λ z. omega arith, named 1 x, here, port_table opened d t new_one (named 1 x) here fine), λ e. tt))
    where
      next : IsNext w (fresh t x)
      next = fresh_next w t x is

      fine : FineRight opened new_one
      fine = record {
        nodes = λ m i. let k : CanBeNamed w m = elim i [ inl e ↦ subst (CanBeNamed w) e made | inr way ↦ up m way ] in (named_still w c (fresh t x) next 1 m k.0, k.1);
        open_name = named_below w c (fresh t x) next 1 (fresh t x) refl (omega arith);
        opened = (new_open n modes, there, refl);
        written = λ z e asked. let same : new_open n modes ≡ z = cc (there, e) in writes (ap (λ (k : Opened). asks k.modes WRITE) same ∙ asked);
      }

  pub opens_piece : {T : Part → Type 0} {v : World} → Stands w → T (TaskOf t) → T (OpenOf (fresh t x)) → ((p : Part) → OnOpen w n p → T p) → CanBeNamed w n → ((m : Name) → IsAmong m (ways_of parents) → CanBeNamed w m)
      → (asks modes WRITE ≡ true → CanBeWritten w n) → ((S : ℕ → Bool) → S t ≡ true → AllMay S v w (opening t x n ids parents modes)) → Piece t T v w (opening t x n ids parents modes)
  opens_piece {T} s task open_part parts made up writes may =
      of_ports (opening t x n ids parents modes) (tt, (tt, tt)) (held_opening w t x is n ids parents modes s.held) s (opens_within T task open_part parts) (opens_proper s.coherent made up writes) may

-- a port goes

drops_within : (T : Part → Type 0) (w : World) (t p : ℕ) (x : Task) (r : Right) → task_at w t ≡ Some x → right_in p x.ports ≡ Some r → T (TaskOf t) → ((q : Part) → OnRight w r q → T q) → Within T w (EditTask t (without_port p))
drops_within T w t p x r is under task parts = (
  task,
  λ z at.
      let same : x ≡ z = cc (is, at) in
      let now : right_in p z.ports ≡ Some r = ap (λ (y : Task). right_in p y.ports) (sym same) ∙ under in
      let cover : Covers T w r = covers T w r parts in
      record {
        opens = λ o out. without_counts (names_open o) p z r now (not_named w o r T cover out);
        users = λ s out. without_counts (is_on w s) p z r now (not_on w s r T cover out);
      },
)

-- and with it its open, if it was the last

-- an open that may be gone is held, if it was before the right went or if it is there yet
dropped_held : (w : World) (t p : ℕ) (x : Task) (r : Right) → task_at w t ≡ Some x → right_in p x.ports ≡ Some r → IsSettled (ports_of w) → (o : Name) (z : Opened) → open_at w o ≡ Some z
    → (is_held (edit_task t (without_port p) w.tasks) o ≡ true) ⊎ (names_open o r ≡ true)
dropped_held w t p x r is under held o z at = go (names_open o r) refl
  where
    go : (b : Bool) → names_open o r ≡ b → (is_held (edit_task t (without_port p) w.tasks) o ≡ true) ⊎ (names_open o r ≡ true)
    go true e = inr e
    go false e =
        let all = count_edit (names_open o) t (without_port p) w.tasks x is in
        let one = without_counts (names_open o) p x r under e in
        let same : count_rights (names_open o) (edit_task t (without_port p) w.tasks) ≡ count_rights (names_open o) w.tasks = omega arith in
        inl (held_counted (edit_task t (without_port p) w.tasks) o ∙ ap (λ k. nat_lt 0 k) same ∙ sym (held_counted w.tasks o) ∙ held o z at)

-- of the tasks that are left
letting_held : (y : World) (r : Right) → ((o : Name) (z : Opened) → open_at y o ≡ Some z → (is_held y.tasks o ≡ true) ⊎ (names_open o r ≡ true)) → IsSettled (ports_of (apply_all (letting_go (open_of r)) y))
letting_held y (Io r) held o z at = elim (held o z (was_settled y.tasks y.opens r.open_name o z at)) [
  | inl here ↦ here
  | inr it ↦ rw (sym (equal_if_same r.open_name o it)) (settled_held y.tasks y.opens r.open_name z (rw (sym (equal_if_same r.open_name o it)) at at))
]
letting_held y (Control s) held o z at = elim (held o z at) [ inl here ↦ here | inr it ↦ absurd (cc (it)) ]
letting_held y (Start n) held o z at = elim (held o z at) [ inl here ↦ here | inr it ↦ absurd (cc (it)) ]

letting_exact : (r : Right) → AllExact (letting_go (open_of r))
letting_exact (Io r) = (tt, tt)
letting_exact r = tt

letting_ports : (r : Right) → AreOfPorts (letting_go (open_of r))
letting_ports (Io r) = (tt, tt)
letting_ports r = tt

letting_proper : (y : World) (r : Right) → AllProper y (letting_go (open_of r))
letting_proper y (Io r) = (tt, λ c. tt)
letting_proper y r = tt

-- the open is of the right's node
letting_within : (T : Part → Type 0) (w y : World) (r : Right) → nodes_of y ≡ nodes_of w → y.opens ≡ w.opens → ((z : Opened) (q : IoRight) → Io q ≡ r → open_at w q.open_name ≡ Some z → z.node ≡ q.node)
    → ((q : Part) → OnDrop w r q → T q) → AllWithin T y (letting_go (open_of r))
letting_within T w y (Io r) nodes opens of parts = (
  (
    parts (OpenOf r.open_name) (inl (inl refl)),
    λ z at told.
        let here : z.node ≡ r.node = of z r refl (ap (λ (m : OpenMap). get m r.open_name) (sym opens) ∙ at) in
        let counts : counts_at w r.node ≡ true = ap (λ (h : NodeState). counts_by (server_of h r.node)) (sym nodes) ∙ ap (counts_at y) (sym here) ∙ told in
        subst (λ n. T (EndsOf n)) (sym here) (parts (EndsOf r.node) (inr (counts, refl))),
  ),
  tt,
)
letting_within T w y (Control s) nodes opens of parts = tt
letting_within T w y (Start n) nodes opens of parts = tt

letting_may : (S : ℕ → Bool) (v y : World) (r : Right) → ((o : Name) → open_of r ≡ Some o → Known S v (OpenOf o)) → AllMay S v y (letting_go (open_of r))
letting_may S v y (Io r) known = (known r.open_name refl, tt)
letting_may S v y r known = tt

drop_rights : (w : World) (r : Right) (q : Part) → OnRight w r q → OnDrop w r q
drop_rights w (Io r) q on = inl on
drop_rights w r q on = on

-- what goes with a port: the right, and its open with it
abbrev leaving : ℕ → ℕ → Right → List Change
leaving t p r = EditTask t (without_port p) ∷ letting_go (open_of r)

pub drops_whole : {T : Part → Type 0} {v w : World} → Stands w → (t p : ℕ) (x : Task) (r : Right) → task_at w t ≡ Some x → right_in p x.ports ≡ Some r → T (TaskOf t) → ((q : Part) → OnDrop w r q → T q)
    → ((S : ℕ → Bool) → S t ≡ true → (o : Name) → open_of r ≡ Some o → Known S v (OpenOf o)) → Whole t T v w (dropping t p r)
drops_whole {T} {v} {w} s t p x r is under task parts known =
    settled (leaving t p r) (tt, letting_exact r) s (of_ports (leaving t p r) (tt, letting_ports r) (letting_held y r (dropped_held w t p x r is under s.held)) s
    (drops_within T w t p x r is under task (λ q on. parts q (drop_rights w r q on)), letting_within T w y r refl refl of parts)
    ((λ z. omega arith, x, is, without_table w s.coherent t p x is), λ d. letting_proper y r)
    (λ S ours. ((ours, λ a at. (λ q h. inl (without_rights p a q h), inr (record { ids = inl refl; rights = λ q h. inl (without_rights p a q h) }))), letting_may S v y r (known S ours))))
  where
    y : World
    y = apply (EditTask t (without_port p)) w

    of : (z : Opened) (q : IoRight) → Io q ≡ r → open_at w q.open_name ≡ Some z → z.node ≡ q.node
    of z q e at =
        let o = s.coherent.tables.opened t x q is (subst (λ k. IsAmong k (rights_of x)) (sym e) (right_under p x r under)) in
        let same : o.0 ≡ z = cc (o.1, at) in
        ap (λ (u : Opened). u.node) (sym same) ∙ o.2

-- an open changes, and stays one of its node, to read and to write if it was

module _ {t : ℕ} {T : Part → Type 0} {v w : World} (s : Sound w) (o : Name) (part : T (OpenOf o)) where
  opened_whole : (f : Opened → Opened) → KeepsEnds f → Whole t T v w (EditOpen o f ∷ [])
  opened_whole f keeps = quiet (EditOpen o f ∷ []) (tt, tt) s (of_ports (EditOpen o f ∷ []) (tt, tt) (held_one (EditOpen o f) w tt s.settled.opens) (stands s) (part, tt) (keeps, λ c. tt) (λ S ours. (tt, tt)))

  -- its cursor moves
  pub cursor_whole : (k : ℕ) → Whole t T v w (EditOpen o (at_cursor k) ∷ [])
  cursor_whole k = opened_whole (at_cursor k) (λ z. (refl, refl, refl))

  -- it gets APPEND, or loses it
  pub append_whole : (append : Bool) → Whole t T v w (EditOpen o (appending append) ∷ [])
  append_whole append = opened_whole (appending append) (λ z. (refl, append_read append z.modes, append_write append z.modes))
