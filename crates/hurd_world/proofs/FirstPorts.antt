-- What the first tables have.
use Rattle.std.proofs.Common.{◌≡◌, ◌⊎◌, inl, inr, ℕ, zero, suc, ◌+◌, ◌<◌, true, List, [], ◌∷◌, length, refl, ap, sym, subst, ◌∙◌, arith}
use Rattle.std.specs.Prelude.{Some, slice_get}
use Rattle.std.proofs.Math.Bool.{or-true}
use Rattle.hurd_machine.proofs.Common.{Control, IdSets, Io, IoRight, IsAmong, IsSettled, Name, NameMap, OpenMap, Opened, Right, Start, Task, boot_name, is_held, list_any, name_cmp, name_of, names_open, new_open, rights_of}
use Rattle.std.specs.FinMap as fin
use Rattle.std.proofs.lemmas.List.Folds.{list_any_at}
use Rattle.std.proofs.lemmas.Option.{slice_get_within, get_or_from_slice_get}
use Rattle.hurd_creds.proofs.NameLaws.{same_name-itself, same_or_apart, get_here, get_apart}
use Rattle.hurd_ports.specs.declared.table.Port.{Port}
use Rattle.hurd_world.specs.Boot.{boot_task, boot_tasks, boot_opens, boot_ports, closed_open}

-- maps with a value put in

pub insert_cases : {X : Type 0} (m : NameMap X) (b : Name) (v : X) (q : Name) (x : X) → fin.get (fin.insert m b v) q ≡ Some x → ((q ≡ b) × (x ≡ v)) ⊎ (fin.get m q ≡ Some x)
insert_cases m b v q x h = elim (same_or_apart q b) [
  | inl e ↦ inl (e, let here = get_here m b v in let there : fin.get (fin.insert m b v) b ≡ Some x = ap (fin.get (fin.insert m b v)) (sym e) ∙ h in cc)
  | inr apart ↦ inr (sym (get_apart m b v q apart) ∙ h)
]

-- what is there stays where the same is put in
insert_kept : {X : Type 0} (m : NameMap X) (b : Name) (v : X) (q : Name) → fin.get m q ≡ Some v → fin.get (fin.insert m b v) q ≡ Some v
insert_kept m b v q h = elim (same_or_apart q b) [ inl e ↦ rw e (get_here m b v) | inr apart ↦ get_apart m b v q apart ∙ h ]

pub none_in_empty : {X : Type 0} (q : Name) (x : X) → fin.get (fin.empty {R = name_cmp}) q ≡ Some x → ⊥
none_in_empty {X} q x h = let none = fin.get-empty {X = X} name_cmp q in cc

-- a map of one value
pub only : {X : Type 0} (b : Name) (v : X) (q : Name) (x : X) → fin.get (fin.insert (fin.empty {R = name_cmp}) b v) q ≡ Some x → (q ≡ b) × (x ≡ v)
only b v q x h = elim (insert_cases fin.empty b v q x h) [ inl is ↦ is | inr none ↦ absurd (none_in_empty q x none) ]

-- tasks

-- each task is one that boot made
pub boot_seat : (k : ℕ) (tasks : List IdSets) (t : ℕ) (x : Task) → slice_get (boot_tasks k tasks) t ≡ Some x → (ids : IdSets) × (x ≡ boot_task (k + t) ids) × (t < length tasks)
boot_seat k [] t x h = absurd (cc)
boot_seat k (ids ∷ tasks) zero x h = let n : k + 0 ≡ k = omega arith in (ids, rw n (cc), omega arith)
boot_seat k (ids ∷ tasks) (suc t) x h =
    let rest = boot_seat (k + 1) tasks t x h in
    let n : k + suc t ≡ (k + 1) + t = omega arith in
    (rest.0, rw n rest.1, omega arith)

-- there is one for each
boot_seat_at : (k : ℕ) (tasks : List IdSets) (t : ℕ) → t < length tasks → (ids : IdSets) × (slice_get (boot_tasks k tasks) t ≡ Some (boot_task (k + t) ids))
boot_seat_at k [] t lt = absurd (omega arith)
boot_seat_at k (ids ∷ tasks) zero lt = let n : k + 0 ≡ k = omega arith in (ids, rw n refl)
boot_seat_at k (ids ∷ tasks) (suc t) lt =
    let rest = boot_seat_at (k + 1) tasks t (omega arith) in
    let n : k + suc t ≡ (k + 1) + t = omega arith in
    (rest.0, rw n rest.1)

-- one of the two opens of a task
abbrev pub OfTask : ℕ → Name → Type 0
OfTask t q = (q ≡ name_of t 0) ⊎ (q ≡ name_of t 1)

-- a right on the boot root, which came in by no way, with one of the task's opens
pub record IsBootRight (t : ℕ) (r : IoRight) : Type 0 where
  pub node : r.node ≡ boot_name
  pub open_name : OfTask t r.open_name
  pub parents : r.parents ≡ []

abbrev pub IsFirst : ℕ → Right → Type 0
IsFirst t (Io r) = IsBootRight t r
IsFirst t (Control s) = ⊥
IsFirst t (Start n) = ⊥

-- each right of a task is one
pub boot_right : (t : ℕ) (ids : IdSets) (r : Right) → IsAmong r (rights_of (boot_task t ids)) → IsFirst t r
boot_right t ids r h = elim h [
  | inl first ↦ subst (IsFirst t) first (record { node = refl; open_name = inl refl; parents = refl })
  | inr more ↦ elim more [
    | inl second ↦ subst (IsFirst t) second (record { node = refl; open_name = inr refl; parents = refl })
    | inr none ↦ absurd none
  ]
]

pub boot_number : (t : ℕ) (ids : IdSets) (p : Port) → IsAmong p (boot_task t ids).ports → p.number < 3
boot_number t ids p h = elim h [
  | inl first ↦ subst (λ (y : Port). y.number < 3) first (omega arith)
  | inr more ↦ elim more [ inl second ↦ subst (λ (y : Port). y.number < 3) second (omega arith) | inr none ↦ absurd none ]
]

-- opens

abbrev pub closed : Opened
closed = new_open boot_name closed_open

-- what was open so stays so
opens_kept : (k : ℕ) (tasks : List IdSets) (m : OpenMap) (q : Name) → fin.get m q ≡ Some closed → fin.get (boot_opens k tasks m) q ≡ Some closed
opens_kept k [] m q h = h
opens_kept k (ids ∷ tasks) m q h =
    opens_kept (k + 1) tasks _ q (insert_kept (fin.insert m (name_of k 0) closed) (name_of k 1) closed q (insert_kept m (name_of k 0) closed q h))

-- both opens of each task are there
pub opens_there : (k : ℕ) (tasks : List IdSets) (m : OpenMap) (t : ℕ) (q : Name) → t < length tasks → OfTask (k + t) q → fin.get (boot_opens k tasks m) q ≡ Some closed
opens_there k [] m t q lt is = absurd (omega arith)
opens_there k (ids ∷ tasks) m (suc t) q lt is = let n : k + suc t ≡ (k + 1) + t = omega arith in opens_there (k + 1) tasks _ t q (omega arith) (rw n at is)
opens_there k (ids ∷ tasks) m zero q lt is = let n : k + 0 ≡ k = omega arith in opens_kept (k + 1) tasks _ q (here (rw n at is))
  where
    one : OpenMap
    one = fin.insert m (name_of k 0) closed

    here : OfTask k q → fin.get (fin.insert one (name_of k 1) closed) q ≡ Some closed
    here (inl e) = rw e (insert_kept one (name_of k 1) closed (name_of k 0) (get_here m (name_of k 0) closed))
    here (inr e) = rw e (get_here one (name_of k 1) closed)

-- and no others, and each is without modes
pub opens_only : (k : ℕ) (tasks : List IdSets) (m : OpenMap) (q : Name) (x : Opened) → fin.get (boot_opens k tasks m) q ≡ Some x
    → (fin.get m q ≡ Some x) ⊎ ((t : ℕ) × (t < length tasks) × OfTask (k + t) q × (x ≡ closed))
opens_only k [] m q x h = inl h
opens_only k (ids ∷ tasks) m q x h = elim (opens_only (k + 1) tasks _ q x h) [
  | inr later ↦ let n : k + suc later.0 ≡ (k + 1) + later.0 = omega arith in inr (suc later.0, omega (arith, later.1), rw n later.2, later.3)
  | inl now ↦ let n : k + 0 ≡ k = omega arith in elim (insert_cases (fin.insert m (name_of k 0) closed) (name_of k 1) closed q x now) [
    | inl second ↦ inr (0, omega arith, rw n (inr second.0), second.1)
    | inr before ↦ elim (insert_cases m (name_of k 0) closed q x before) [ inl first ↦ inr (0, omega arith, rw n (inl first.0), first.1) | inr old ↦ inl old ]
  ]
]

-- each open is one of two of a task, without modes
pub boot_open : (tasks : List IdSets) (q : Name) (x : Opened) → fin.get (boot_ports tasks).opens q ≡ Some x → (t : ℕ) × (t < length tasks) × OfTask (0 + t) q × (x ≡ closed)
boot_open tasks q x h = elim (opens_only 0 tasks fin.empty q x h) [ inl none ↦ absurd (none_in_empty q x none) | inr one ↦ one ]

-- a task holds its opens
task_holds : (t : ℕ) (ids : IdSets) (q : Name) → OfTask t q → list_any (names_open q) (rights_of (boot_task t ids)) ≡ true
task_holds t ids q (inl e) = rw (e, same_name-itself (name_of t 0)) refl
task_holds t ids q (inr e) = rw (e, same_name-itself (name_of t 1)) (or-true _)

pub boot_settled : (tasks : List IdSets) → IsSettled (boot_ports tasks)
unfolding is_held
boot_settled tasks q x h =
    let one = boot_open tasks q x h in
    let seat = boot_seat_at 0 tasks one.0 one.1 in
    let task = boot_task (0 + one.0) seat.0 in
    let holds = λ (y : Task). list_any (names_open q) (rights_of y) in
    list_any_at holds (boot_tasks 0 tasks) one.0 task (slice_get_within (boot_tasks 0 tasks) one.0 task seat.1)
    (ap holds (get_or_from_slice_get (boot_tasks 0 tasks) one.0 task task seat.1) ∙ task_holds (0 + one.0) seat.0 q one.2)
