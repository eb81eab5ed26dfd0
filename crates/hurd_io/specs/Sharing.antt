-- Ports that share an open, and whether two are on one node.
use Rattle.std.specs.Prelude.{ℕ, [], ◌∷◌, Result, Ok}
use Rattle.hurd_creds.specs.declared.errno.Errno.{Errno}
use Rattle.hurd_creds.specs.Access.{IdSets, restrict}
use Rattle.hurd_creds.specs.Names.{same_name}
use Rattle.hurd_ports.specs.declared.table.IoRight.{IoRight}
use Rattle.hurd_ports.specs.declared.table.Right.TheVariants.{Io}
use Rattle.hurd_ports.specs.Tables.{Task}
use Rattle.hurd_ports.specs.Steps.{with_ids_for, with_port}
use Rattle.hurd_machine.specs.Calls.{Reply}
use Rattle.hurd_machine.specs.declared.call.Reply.TheVariants.{Port, Same}
use Rattle.hurd_machine.specs.World.{World}
use Rattle.hurd_machine.specs.Change.{EditTask}
use Rattle.hurd_machine.specs.Plan.{Plan, first, answered, looks}
use Rattle.hurd_machine.specs.Handle.{Named, both_asks, port_asks}
use Rattle.hurd_machine.specs.Sight.{Part}
use Rattle.hurd_machine.specs.Touched.{asked_parts, Nothing, OnRight}
use Rattle.hurd_core.specs.Core.{room_asks}

-- a port on a node that is there, and a task that can number another
abbrev pub share_asks : World → ℕ → ℕ → Result (IoRight × Task) Errno
share_asks w t p = first (port_asks w t p) (λ n. first (room_asks w t 0) (λ x. Ok (n.right, x)))

-- one port more on the node, which shares the open, with the ids that follow from the task's and the port's
abbrev pub plan_share : World → ℕ → ℕ → (IdSets → IdSets → IdSets) → Plan
plan_share w t p ids =
    answered (share_asks w t p) (λ a. record {
      reply = Port a.1.next;
      changes = EditTask t (with_port (Io (with_ids_for (ids a.1.ids a.0.ids) a.0))) ∷ [];
    })

-- a right comes
abbrev pub touches_share : World → ℕ → ℕ → Part → Type 0
touches_share w t p = asked_parts (share_asks w t p) (λ a. OnRight w (Io a.0))

-- io_duplicate: with the port's ids
abbrev pub ids_of_port : IdSets → IdSets → IdSets
ids_of_port task port = port

abbrev pub plan_duplicate : World → ℕ → ℕ → Plan
plan_duplicate w t p = plan_share w t p ids_of_port

-- io_reauthenticate: with the task's ids
abbrev pub ids_of_task : IdSets → IdSets → IdSets
ids_of_task task port = task

abbrev pub plan_reauthenticate : World → ℕ → ℕ → Plan
plan_reauthenticate w t p = plan_share w t p ids_of_task

-- io_restrict_auth: with those of the ids asked for that the port has
abbrev pub ids_among : IdSets → IdSets → IdSets → IdSets
ids_among asked task port = restrict port asked

abbrev pub plan_restrict_auth : World → ℕ → ℕ → IdSets → Plan
plan_restrict_auth w t p asked = plan_share w t p (ids_among asked)

-- io_identity: whether two ports are on one node
abbrev pub told_same : Named × Named → Reply
told_same a = Same (same_name a.0.right.node a.1.right.node)

abbrev pub plan_identity : World → ℕ → ℕ → ℕ → Plan
plan_identity w t p q = looks (both_asks w t p q) told_same

abbrev pub touches_identity : World → ℕ → ℕ → ℕ → Part → Type 0
touches_identity w t p q = Nothing
