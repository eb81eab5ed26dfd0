-- How much a port can hold.
use Rattle.std.specs.Prelude.{ℕ}

-- so many ways a port can have come in by
abbrev pub most_parents : ℕ
most_parents = 64
