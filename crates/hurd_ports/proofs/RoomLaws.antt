-- What it says that a task has room.
use Rattle.std.proofs.Common.{◌≡◌, List, ℕ, Bool, true, false, if◌then◌else◌, refl, ap, ◌∙◌}
use Rattle.std.specs.Prelude.{Option, Some, None, Result, Ok, Err, slice_get}
use Rattle.hurd_creds.specs.declared.name.Name.{Name}
use Rattle.hurd_creds.specs.declared.errno.Errno.{Errno}
use Rattle.hurd_creds.specs.declared.errno.Errno.TheVariants.{EOVERFLOW}
use Rattle.hurd_creds.specs.declared.open_flags.OpenFlags.{OpenFlags}
use Rattle.hurd_creds.specs.Access.{IdSets}
use Rattle.hurd_ports.specs.declared.parents.Parent.{Parent}
use Rattle.hurd_ports.specs.Tables.{Task, PortState, has_room, room_at, room_of}
use Rattle.hurd_ports.specs.Steps.{insert_at, insert_step, with_new_port}

-- where there is room there is the task
pub record Roomy (h : PortState) (t names : ℕ) : Type 0 where
  pub task : Task
  pub there : slice_get h.tasks t ≡ Some task
  pub room : has_room names task ≡ true

pub room-is : (h : PortState) (t names : ℕ) → room_of h t names ≡ Ok tt → Roomy h t names
room-is h t names = go (slice_get h.tasks t) refl
  where
    roomy : (b : Bool) → ◌≡◌ {A = Result (Unit {0}) Errno} (if b then Ok tt else Err EOVERFLOW) (Ok tt) → b ≡ true
    roomy true h = refl
    roomy false h = absurd (cc)

    go : (o : Option Task) → slice_get h.tasks t ≡ o → room_at names o ≡ Ok tt → Roomy h t names
    go None e is = absurd (cc)
    go (Some x) e is = record { task = x; there = e; room = roomy (has_room names x) is }

-- a port goes in where there is room
pub insert-done : (h : PortState) (t : ℕ) (n : Name) (ids : IdSets) (parents : List Parent) (modes : OpenFlags) (x : Task) → slice_get h.tasks t ≡ Some x → has_room 1 x ≡ true
    → insert_step t n ids parents modes h ≡ (Ok x.next, with_new_port t n ids parents modes x h)
insert-done h t n ids parents modes x at room = ap (insert_at h t n ids parents modes) at ∙ rw room refl
