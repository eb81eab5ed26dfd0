-- All tasks of a world, and what their users' ids are called.
use Rattle.std.specs.Prelude.{ℕ, zero, suc, length, List, [], ◌∷◌, ◌++◌, Option, Some, None}
use Rattle.hurd_creds.specs.Access.{least_uid}
use Rattle.hurd_creds.specs.declared.name.TaskId.{TaskId}
use Rattle.hurd_ports.specs.Tables.{Task}
use Rattle.hurd_pictures.specs.declared.names.Owner.{Owner}

-- so many tasks, by their numbers
unfoldable pub tasks_below : ℕ → List TaskId
tasks_below zero = []
tasks_below (suc n) = tasks_below n ++ record { 0 = n } ∷ []

-- all tasks
abbrev pub all_tasks : List Task → List TaskId
all_tasks tasks = tasks_below (length tasks)

-- a uid is called by a name, where there are both
abbrev pub owner_by : List ℕ → Option ℕ → List Owner
owner_by name None = []
owner_by name (Some uid) = record { uid = uid; name = name } ∷ []

-- of each of these tasks that has a name, the least uid is called by it
unfoldable pub owners_of : List (List ℕ) → List Task → List Owner
owners_of [] tasks = []
owners_of (name ∷ names) [] = []
owners_of (name ∷ names) (task ∷ tasks) = owner_by name (least_uid task.ids) ++ owners_of names tasks
