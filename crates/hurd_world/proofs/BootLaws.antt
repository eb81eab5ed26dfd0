-- The tables after some of the tasks have their first two ports, and what they have in the end.
use Rattle.std.proofs.Common.{◌≡◌, ◌⊎◌, inl, inr, ℕ, zero, suc, ◌+◌, ◌<◌, Bool, true, false, if◌then◌else◌, List, [], ◌∷◌, map, length, drop, add-one, zero-add, drop_of_length-le, refl, ap, ap₂, ◌∙◌, arith}
use Rattle.std.proofs.lemmas.List.{set-set}
use Rattle.std.specs.Prelude.{Option, Some, None, Result, Ok, Err, IsOk, nat_le, slice_get, slice_set}
use Rattle.std.specs.FinMap as fin
use Rattle.hurd_machine.proofs.Common.{EINVAL, ENOMEM, Errno, IdSets, Meets, OpenMap, PortState, Tables, Task, boot_name, fresh, has_room, insert_at, name_of, new_open, new_right, new_task, room_at, room_of, with_port}
use Rattle.hurd_creds.specs.Limits.{most_tasks}
use Rattle.hurd_ports.specs.Steps.{begun_at, named, starting_at}
use Rattle.hurd_ports.proofs.TaskLaws.{edit-edit, set-here}
use Rattle.hurd_world.specs.Boot.{boot_task, boot_tasks, boot_opens, boot_ports, closed_open, few_of}
use Rattle.hurd_world.specs.BootPort.{ids_in, with_boot_port}

-- the tasks from number k on, of which the first t have their ports
abbrev pub half_begun : ℕ → ℕ → List IdSets → List Task
half_begun k zero tasks = map (new_task 1) tasks
half_begun k (suc t) [] = []
half_begun k (suc t) (ids ∷ more) = boot_task k ids ∷ half_begun (k + 1) t more

-- the next task has none
next_empty : (k t : ℕ) (tasks : List IdSets) (ids : IdSets) → slice_get tasks t ≡ Some ids → slice_get (half_begun k t tasks) t ≡ Some (new_task 1 ids)
next_empty k t [] ids at = absurd (cc)
next_empty k zero (x ∷ tasks) ids at = let e : x ≡ ids = cc in ap (λ (y : IdSets). Some (new_task 1 y)) e
next_empty k (suc t) (x ∷ tasks) ids at = next_empty (k + 1) t tasks ids at

-- and then it has its ports
next_begun : (k t : ℕ) (tasks : List IdSets) (ids : IdSets) → slice_get tasks t ≡ Some ids → slice_set (half_begun k t tasks) t (boot_task (k + t) ids) ≡ half_begun k (suc t) tasks
next_begun k t [] ids at = absurd (cc)
next_begun k zero (x ∷ tasks) ids at = let e : ids ≡ x = cc in let n : k + 0 ≡ k = omega arith in rw (n, e) refl
next_begun k (suc t) (x ∷ tasks) ids at = let n : k + suc t ≡ (k + 1) + t = omega arith in rw n (ap (λ (ts : List Task). boot_task k x ∷ ts) (next_begun (k + 1) t tasks ids at))

all_begun : (k t : ℕ) (tasks : List IdSets) → t ≡ length tasks → half_begun k t tasks ≡ boot_tasks k tasks
all_begun k zero [] e = refl
all_begun k (suc t) [] e = refl
all_begun k zero (x ∷ tasks) e = absurd (omega arith)
all_begun k (suc t) (x ∷ tasks) e = ap (λ (ts : List Task). boot_task k x ∷ ts) (all_begun (k + 1) t tasks (omega arith))

-- the ids of the next task
next_ids : (tasks : List IdSets) (t : ℕ) → t < length tasks → (ids : IdSets) × (slice_get tasks t ≡ Some ids) × (drop t tasks ≡ ids ∷ drop (suc t) tasks)
next_ids [] t lt = absurd (omega arith)
next_ids (x ∷ tasks) zero lt = (x, refl, refl)
next_ids (x ∷ tasks) (suc t) lt = next_ids tasks t (omega arith)

-- a task with one port more on the boot root
abbrev more : ℕ → Task → Task
more t x = with_port (new_right t boot_name x.ids [] x) (named 1 x)

-- one port more
added_once : (h : PortState) (t : ℕ) (x : Task) → slice_get h.tasks t ≡ Some x → has_room 1 x ≡ true
    → with_boot_port t h ≡ record { opens = fin.insert h.opens (fresh t x) (new_open boot_name closed_open); tasks = slice_set h.tasks t (more t x) }
added_once h t x at room =
    rw at (ap (λ (o : Option Task). (insert_at h t boot_name x.ids [] closed_open o).1) at ∙ rw room (ap (λ (ts : List Task). let g : PortState = record { opens = fin.insert h.opens (fresh t x) (new_open boot_name closed_open); tasks = ts } in g) (edit-edit t (with_port (new_right t boot_name x.ids [] x)) (named 1) h.tasks x at)))

-- both ports of a task that had none
added_twice : (h : PortState) (t : ℕ) (ids : IdSets) → slice_get h.tasks t ≡ Some (new_task 1 ids)
    → with_boot_port t (with_boot_port t h) ≡ record { opens = fin.insert (fin.insert h.opens (name_of t 0) (new_open boot_name closed_open)) (name_of t 1) (new_open boot_name closed_open); tasks = slice_set h.tasks t (boot_task t ids) }
added_twice h t ids at =
    ap (with_boot_port t) (added_once h t (new_task 1 ids) at refl)
    ∙ added_once half t one (set-here h.tasks t (new_task 1 ids) one at) refl
    ∙ ap (λ (ts : List Task). let g : PortState = record { opens = fin.insert half.opens (name_of t 1) (new_open boot_name closed_open); tasks = ts } in g) (set-set h.tasks t one (boot_task t ids))
  where
    one : Task
    one = more t (new_task 1 ids)

    half : PortState
    half = record { opens = fin.insert h.opens (name_of t 0) (new_open boot_name closed_open); tasks = slice_set h.tasks t one }

-- the tables after t tasks have their ports
pub record Begun (tasks : List IdSets) (t : ℕ) (h : PortState) : Type 0 where
  pub seats : h.tasks ≡ half_begun 0 t tasks
  pub opens : boot_opens t (drop t tasks) h.opens ≡ boot_opens 0 tasks fin.empty

module _ (tasks : List IdSets) (t : ℕ) (h : PortState) (lt : t < length tasks) (begun : Begun tasks t h) where
  abbrev next : IdSets
  next = (next_ids tasks t lt).0

  empty_seat : slice_get h.tasks t ≡ Some (new_task 1 next)
  empty_seat = ap (λ (ts : List Task). slice_get ts t) begun.seats ∙ next_empty 0 t tasks next (next_ids tasks t lt).1

  pub room_first : room_of h t 1 ≡ Ok tt
  room_first = ap (room_at 1) empty_seat

  pub room_second : room_of (with_boot_port t h) t 1 ≡ Ok tt
  room_second = rw (added_once h t (new_task 1 next) empty_seat refl) (ap (room_at 1) (set-here h.tasks t (new_task 1 next) (more t (new_task 1 next)) empty_seat))

  pub begun_next : Begun tasks (t + 1) (with_boot_port t (with_boot_port t h))
  begun_next = rw (add-one, added_twice h t next empty_seat) (record {
    seats = ap (λ (ts : List Task). slice_set ts t (boot_task t next)) begun.seats ∙ rw (zero-add t) at (next_begun 0 t tasks next (next_ids tasks t lt).1);
    opens =
        let step : boot_opens (t + 1) (drop (suc t) tasks) (fin.insert (fin.insert h.opens (name_of t 0) (new_open boot_name closed_open)) (name_of t 1) (new_open boot_name closed_open)) ≡ boot_opens 0 tasks fin.empty = rw (next_ids tasks t lt).2 at begun.opens in
        rw add-one at step;
  })

pub begun_first : (tasks : List IdSets) → Begun tasks 0 (starting_at tasks 1)
begun_first tasks = record { seats = refl; opens = refl }

pub begun_all : (tasks : List IdSets) (t : ℕ) (h : PortState) → t ≡ length tasks → Begun tasks t h → h ≡ boot_ports tasks
begun_all tasks t h e begun =
    let done : drop t tasks ≡ [] = drop_of_length-le tasks (omega arith) in
    ap₂ (λ (m : OpenMap) (ts : List Task). let g : PortState = record { opens = m; tasks = ts } in g) (rw done at begun.opens) (begun.seats ∙ all_begun 0 t tasks e)

-- tables that begin, and how many tasks may
abbrev tables : Bool → List IdSets → Result Tables Errno
tables b tasks = if b then Ok (record { state = starting_at tasks 1; ready = None }) else Err EINVAL

abbrev few : Bool → Result (Unit {0}) Errno
few b = if b then Ok tt else Err EINVAL

-- tables that have begun: their tasks are few
pub tables_begun : (tasks : List IdSets) (h : Tables) → begun_at tasks 1 ≡ Ok h → (few_of tasks ≡ Ok tt) × (h ≡ record { state = starting_at tasks 1; ready = None })
tables_begun tasks h = go (nat_le (length tasks) most_tasks)
  where
    go : (b : Bool) → tables b tasks ≡ Ok h → (few b ≡ Ok tt) × (h ≡ record { state = starting_at tasks 1; ready = None })
    go true e = (refl, cc)
    go false e = absurd (cc)

-- tables that don't begin: their tasks are too many, or there is no memory
pub tables_refused : (tasks : List IdSets) (e : Errno) → Meets (begun_at tasks 1) (Err e) → (few_of tasks ≡ Err e) ⊎ ((e ≡ ENOMEM) × IsOk (few_of tasks))
tables_refused tasks e = go (nat_le (length tasks) most_tasks)
  where
    go : (b : Bool) → Meets (tables b tasks) (Err e) → (few b ≡ Err e) ⊎ ((e ≡ ENOMEM) × IsOk (few b))
    go true (inl is) = absurd (cc (is))
    go true (inr lacks) = inr (lacks.0, refl)
    go false (inl is) = inl (let same : EINVAL ≡ e = cc (is) in ap Err same)
    go false (inr lacks) = absurd (cc (lacks.1))

-- the ids of tasks that begin are those that they were given
ids_begun : (tasks : List IdSets) → ids_in (starting_at tasks 1) ≡ tasks
ids_begun [] = refl
ids_begun (ids ∷ tasks) = ap (λ (more : List IdSets). ids ∷ more) (ids_begun tasks)

pub ids_given : (tasks : List IdSets) (h : Tables) → begun_at tasks 1 ≡ Ok h → ids_in h.state ≡ tasks
ids_given tasks h is = ap (λ (g : Tables). ids_in g.state) (tables_begun tasks h is).1 ∙ ids_begun tasks
