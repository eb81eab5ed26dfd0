-- Rights and ids: giving a port up, sending it, taking what was sent, and other ids for a task.
use Rattle.std.specs.Prelude.{◌≡◌, ◌⊎◌, ℕ, [], ◌∷◌, Result, Ok}
use Rattle.hurd_creds.specs.declared.errno.Errno.{Errno}
use Rattle.hurd_creds.specs.declared.errno.Errno.TheVariants.{EPERM}
use Rattle.hurd_creds.specs.Access.{IdSets, may_take}
use Rattle.hurd_machine.specs.declared.call.Reply.TheVariants.{Done, Port}
use Rattle.hurd_ports.specs.Tables.{Task, right_of, task_of}
use Rattle.hurd_ports.specs.Steps.{received, with_ids}
use Rattle.hurd_machine.specs.World.{World, ports_of}
use Rattle.hurd_machine.specs.Change.{EditTask, Send, dropping}
use Rattle.hurd_machine.specs.Plan.{Plan, given, first, answered}
use Rattle.hurd_machine.specs.Sight.{Part, TaskOf}
use Rattle.hurd_machine.specs.Touched.{asked_parts, Nothing, OnRight, OnDrop}
use Rattle.hurd_core.specs.Core.{send_asks, receive_asks}

-- port_deallocate: the right goes, and its open where no other right names that
abbrev pub plan_deallocate : World → ℕ → ℕ → Plan
plan_deallocate w t p = answered (right_of (ports_of w) t p) (λ r. record { reply = Done; changes = dropping t p r })

abbrev pub touches_deallocate : World → ℕ → ℕ → Part → Type 0
touches_deallocate w t p = asked_parts (right_of (ports_of w) t p) (λ r. OnDrop w r)

-- port_send: a copy of the right, last in the inbox of task q
abbrev pub plan_send : World → ℕ → ℕ → ℕ → Plan
plan_send w t p q = answered (send_asks w t p q) (λ r. record { reply = Done; changes = Send r q ∷ [] })

-- the right comes, and the receiver changes
abbrev pub touches_send : World → ℕ → ℕ → ℕ → Part → Type 0
touches_send w t p q = asked_parts (send_asks w t p q) (λ r k. OnRight w r k ⊎ (k ≡ TaskOf q))

-- port_receive: the first right that was sent, as a port
abbrev pub plan_receive : World → ℕ → Plan
plan_receive w t = answered (receive_asks w t) (λ x. record { reply = Port x.next; changes = EditTask t received ∷ [] })

abbrev pub touches_receive : World → ℕ → Part → Type 0
touches_receive w t = Nothing

-- a task that may take these ids: EPERM unless it holds each of them, or uid 0
abbrev pub makeauth_asks : World → ℕ → IdSets → Result Task Errno
makeauth_asks w t ids = first (task_of (ports_of w) t) (λ x. given EPERM (may_take x.ids ids) (Ok x))

-- auth_makeauth: the task's ids become these; those of its rights stay
abbrev pub plan_makeauth : World → ℕ → IdSets → Plan
plan_makeauth w t ids = answered (makeauth_asks w t ids) (λ x. record { reply = Done; changes = EditTask t (with_ids ids) ∷ [] })

abbrev pub touches_makeauth : World → ℕ → IdSets → Part → Type 0
touches_makeauth w t ids = Nothing
