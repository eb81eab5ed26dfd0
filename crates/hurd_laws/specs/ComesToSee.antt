-- What some of a set of tasks can be shown by calls of that set alone: exactly what all of it sees together.
use Rattle.std.specs.Prelude.{◌≡◌, ◌↔◌, ℕ, Bool, true, List, [], ◌∷◌, Some}
use Rattle.hurd_ports.specs.declared.table.Right.{Right}
use Rattle.hurd_ports.specs.declared.table.Right.TheVariants.{Io}
use Rattle.hurd_ports.specs.declared.table.IoRight.{IoRight}
use Rattle.hurd_ports.specs.Tables.{Task, rights_of, right_in}
use Rattle.hurd_machine.specs.declared.call.Call.TheVariants.{Plain}
use Rattle.hurd_machine.specs.declared.call.PlainCall.TheVariants.{PortSend}
use Rattle.hurd_machine.specs.World.{World, IsAmong, task_at}
use Rattle.hurd_machine.specs.Sight.{Part, IsThing, Sees, Within}
use Rattle.hurd_machine.specs.Sound.{Sound}
use Rattle.hurd_laws.specs.Runs.{TaskCall, run}
use Rattle.hurd_laws.specs.Laws.{IsOld}

-- the calls by which tasks send task q a port each
abbrev pub sendings : ℕ → List (ℕ × ℕ) → List TaskCall
sendings q [] = []
sendings q (m ∷ ms) = record { task = m.0; call = Plain (PortSend m.1 (record { 0 = q })) } ∷ sendings q ms

-- each right of a task of G is under one of these ports: none waits in an inbox or to be started. And each task has a port with its ids
pub record AllListed (G : ℕ → Bool) (w : World) (ms : List (ℕ × ℕ)) : Type 0 where
  pub rights : (t : ℕ) (x : Task) (r : Right) → G t ≡ true → task_at w t ≡ Some x → IsAmong r (rights_of x) → (p : ℕ) × IsAmong (t, p) ms × (right_in p x.ports ≡ Some r)
  pub ids : (t : ℕ) (x : Task) → G t ≡ true → task_at w t ≡ Some x → (r : IoRight) × IsAmong (Io r) (rights_of x) × (r.ids ≡ x.ids)

-- once a task of S was sent all ports of G, S sees what G saw
abbrev pub ReachedBySending : Type 0
ReachedBySending =
    (S G : ℕ → Bool) (w : World) (ms : List (ℕ × ℕ)) (q : ℕ) (x : Task) (p : Part) → S q ≡ true → task_at w q ≡ Some x → AllListed G w ms → IsThing p
    → Sees G w p → Sees S (run w (sendings q ms)) p

-- all these calls are of tasks of G
abbrev pub AllOf : (ℕ → Bool) → List TaskCall → Type 0
AllOf G [] = Unit {0}
AllOf G (m ∷ ms) = (G m.task ≡ true) × AllOf G ms

-- all these ports are of tasks of G
abbrev pub AllFrom : (ℕ → Bool) → List (ℕ × ℕ) → Type 0
AllFrom G [] = Unit {0}
AllFrom G (m ∷ ms) = (G m.0 ≡ true) × AllFrom G ms

-- S can be shown a part by calls of G
abbrev pub CanCome : (ℕ → Bool) → (ℕ → Bool) → World → Part → Type 0
CanCome S G w p = (ns : List TaskCall) × AllOf G ns × Sees S (run w ns) p

-- if all that G has can be sent, S, of which a task is there, can be shown a part of an old thing by calls of G exactly if G sees that part
abbrev pub ComesToSee : Type 0
ComesToSee =
    (S G : ℕ → Bool) (w : World) (ms : List (ℕ × ℕ)) (q : ℕ) (x : Task) (p : Part) → Sound w → Within S G → S q ≡ true → task_at w q ≡ Some x
    → AllListed G w ms → AllFrom G ms → IsThing p → IsOld w p → CanCome S G w p ↔ Sees G w p
