-- How often names are counted.
use Rattle.std.specs.Prelude.{ℕ, List, Option, Some, None}
use Rattle.std.specs.Map.{lookup}
use Rattle.hurd_creds.specs.declared.name.Name.{Name}
use Rattle.hurd_creds.specs.Names.{same_name}

-- a count; where there is none, nothing is counted
abbrev pub or_none : Option ℕ → ℕ
or_none None = 0
or_none (Some k) = k

-- how often the name is counted
abbrev pub counted : List (Name × ℕ) → Name → ℕ
counted es n = or_none (lookup (same_name n) es)
