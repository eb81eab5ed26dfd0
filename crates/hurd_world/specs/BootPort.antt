-- One port more on the boot root.
use Rattle.std.specs.Prelude.{ℕ, ◌≡◌, List, [], Result, Ok, Err, map, slice_get}
use Rattle.hurd_creds.specs.declared.errno.Errno.{Errno}
use Rattle.hurd_creds.specs.Access.{IdSets}
use Rattle.hurd_nodes.specs.Shown.{boot_name}
use Rattle.hurd_ports.specs.Tables.{PortState, Task, ids_at}
use Rattle.hurd_ports.specs.Steps.{insert_step, starting_at}
use Rattle.hurd_world.specs.Boot.{closed_open}

-- a port more of task t on the boot root, with the task's ids and no modes
abbrev pub with_boot_port : ℕ → PortState → PortState
with_boot_port t h = of_ids (ids_at (slice_get h.tasks t)) where
  of_ids : Result IdSets Errno → PortState
  of_ids (Ok ids) = (insert_step t boot_name ids [] closed_open h).1
  of_ids (Err e) = h

-- the ids of each task
abbrev pub ids_in : PortState → List IdSets
ids_in h = map (λ (x : Task). x.ids) h.tasks

-- no task has a port yet: its ids are all that there is of it
abbrev pub IsNew : PortState → Type 0
IsNew h = h ≡ starting_at (ids_in h) 1
