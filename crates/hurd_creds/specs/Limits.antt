-- Limits that several crates speak of.
use Rattle.std.specs.Prelude.{ℕ}

-- the greatest lengths of a path and of a name
abbrev pub most_path : ℕ
most_path = 1024

abbrev pub most_name : ℕ
most_name = 255

-- the greatest size of a file
abbrev pub most_size : ℕ
most_size = 16777216

-- the most bytes of one read
abbrev pub most_read : ℕ
most_read = 65536

-- how many tasks there may be
abbrev pub most_tasks : ℕ
most_tasks = 64

-- how many bytes a script or a list of calls may have
abbrev pub most_script : ℕ
most_script = 1048576
