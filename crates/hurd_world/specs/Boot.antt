-- The first world.
use Rattle.std.specs.Prelude.{ℕ, Bool, true, false, ◌+◌, not, if◌then◌else◌, List, [], ◌∷◌, None, length, nat_le, Result, Ok, Err}
use Rattle.std.specs.FinMap as fin
use Rattle.hurd_creds.specs.declared.errno.Errno.{Errno}
use Rattle.hurd_creds.specs.declared.errno.Errno.TheVariants.{EINVAL, ENOTDIR}
use Rattle.hurd_creds.specs.declared.open_flags.OpenFlags.{OpenFlags}
use Rattle.hurd_creds.specs.Access.{IdSets}
use Rattle.hurd_creds.specs.Names.{name_of}
use Rattle.hurd_creds.specs.Limits.{most_tasks}
use Rattle.hurd_trans_iface.specs.Nodes.{is_dir}
use Rattle.hurd_trans_iface.specs.declared.root.Crossing.{Crossing}
use Rattle.hurd_trans_iface.specs.declared.root.Crossing.TheVariants.{Firm, Union}
use Rattle.hurd_trans_iface.specs.Meaning.{Meaning, root_of}
use Rattle.hurd_nodes.specs.Shown.{state_of, booted, boot_name}
use Rattle.hurd_ports.specs.declared.table.Right.TheVariants.{Io}
use Rattle.hurd_ports.specs.Tables.{Task, OpenMap, PortState}
use Rattle.hurd_ports.specs.Steps.{new_open}
use Rattle.hurd_machine.specs.World.{World, world_from}

-- whether tasks of these ids begin together: EINVAL for more of them than that
abbrev pub few_of : List IdSets → Result (Unit {0}) Errno
few_of tasks = if nat_le (length tasks) most_tasks then Ok tt else Err EINVAL

-- a root that is crossed to the targets of its server: there is nothing yet that these could be
abbrev pub is_aimed : Crossing → Bool
is_aimed Firm = true
is_aimed Union = true
is_aimed _ = false

-- whether a boot server of this meaning and tasks of these ids begin a world: ENOTDIR where its root is no directory, EINVAL where it wants targets, EINVAL
abbrev pub boot_of : Meaning → List IdSets → Result (Unit {0}) Errno
boot_of m tasks = if not (is_dir (root_of m.kind m.text).kind) then Err ENOTDIR else if is_aimed (root_of m.kind m.text).crossing then Err EINVAL else few_of tasks

-- an open without modes
abbrev pub closed_open : OpenFlags
closed_open = record { 0 = 0 }

-- task t with port 1, the root, and port 2, the working directory: both on the boot root, each with an open of its own
abbrev pub boot_task : ℕ → IdSets → Task
boot_task t ids = record {
  ids = ids;
  ports =
      record { number = 1; right = Io (record { node = boot_name; ids = ids; open_name = name_of t 0; parents = [] }) }
      ∷ record { number = 2; right = Io (record { node = boot_name; ids = ids; open_name = name_of t 1; parents = [] }) }
      ∷ [];
  next = 3;
  inbox = [];
  made = 2;
  pending = None;
}

-- the tasks from number t on
abbrev pub boot_tasks : ℕ → List IdSets → List Task
boot_tasks t [] = []
boot_tasks t (ids ∷ more) = boot_task t ids ∷ boot_tasks (t + 1) more

-- with the two opens of each task from number t on
abbrev pub boot_opens : ℕ → List IdSets → OpenMap → OpenMap
boot_opens t [] m = m
boot_opens t (ids ∷ more) m =
    boot_opens (t + 1) more (fin.insert (fin.insert m (name_of t 0) (new_open boot_name closed_open)) (name_of t 1) (new_open boot_name closed_open))

-- the tables of tasks of these ids
abbrev pub boot_ports : List IdSets → PortState
boot_ports tasks = record { opens = boot_opens 0 tasks fin.empty; tasks = boot_tasks 0 tasks }

-- the world that a boot server of this meaning and tasks of these ids begin
abbrev pub first_world : Meaning → List IdSets → World
first_world m tasks = world_from (state_of (booted m)) (boot_ports tasks)
