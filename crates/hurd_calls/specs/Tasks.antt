-- The tasks of a list, by their numbers.
use Rattle.std.specs.Prelude.{ℕ, List, ◌++◌, Option, Some, None, if◌then◌else◌, codes, length, nat_lt, option_and_then}
use Rattle.hurd_creds.specs.declared.name.TaskId.{TaskId}
use Rattle.hurd_creds.specs.Numbers.{number_of}

-- a number below this count
abbrev pub below : ℕ → ℕ → Option ℕ
below count n = if nat_lt n count then Some n else None

-- the task that a word numbers, of so many
abbrev pub task_of : ℕ → List ℕ → Option ℕ
task_of count word = option_and_then (below count) (number_of word)

-- what is in front of the numbers of tasks
abbrev pub noun_of : List TaskId → List ℕ
noun_of tasks = if nat_lt 1 (length tasks) then codes "tasks " else codes "task "

-- what the tasks of a word are called
abbrev pub called : List ℕ → List TaskId → List ℕ
called word tasks = noun_of tasks ++ word
