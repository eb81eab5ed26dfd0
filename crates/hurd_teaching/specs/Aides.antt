-- The tasks that could show some tasks more, with these.
use Rattle.std.specs.Prelude.{◌||◌, Bool, true, false, not, List, Option, Some, None, filter, slice_get}
use Rattle.hurd_creds.specs.Access.{is_root}
use Rattle.hurd_creds.specs.declared.name.TaskId.{TaskId}
use Rattle.hurd_ports.specs.Tables.{Task}
use Rattle.hurd_sight.specs.Reach.{among}
use Rattle.hurd_teaching.specs.Owners.{all_tasks}

-- whether a task has the uid of root
abbrev pub root_in : Option Task → Bool
root_in (Some x) = is_root x.ids
root_in None = false

-- the same by its number
abbrev pub is_root_task : List Task → TaskId → Bool
is_root_task tasks t = root_in (slice_get tasks t.0)

-- whether a task is one of these, or does not have the uid of root
abbrev pub is_aide : List TaskId → List Task → TaskId → Bool
is_aide who tasks t = among who t.0 || not (is_root_task tasks t)

-- of all tasks those that are among these or do not have the uid of root, in their order
abbrev pub aides_of : List TaskId → List Task → List TaskId
aides_of who tasks = filter (is_aide who tasks) (all_tasks tasks)

-- the same, where they are wanted
abbrev pub aides_if : Bool → List TaskId → List Task → Option (List TaskId)
aides_if true who tasks = Some (aides_of who tasks)
aides_if false who tasks = None
