-- What holds of all tables at any time.
use Rattle.std.specs.Prelude.{◌≡◌, ℕ, ◌+◌, ◌<◌, ◌≤◌, List, [], ◌∷◌, Some, IsSomeAnd, slice_get}
use Rattle.std.specs.FinMap as fin
use Rattle.hurd_creds.specs.declared.name.Name.{Name}
use Rattle.hurd_ports.specs.declared.table.Opened.{Opened}
use Rattle.hurd_ports.specs.declared.table.Port.{Port}
use Rattle.hurd_ports.specs.Tables.{Task, PortState, IsSettled}

-- the numbers begin at `low` or above, rise, and stay below `next`
abbrev pub NumbersRise : ℕ → ℕ → List Port → Type 0
NumbersRise low next [] = low ≤ next
NumbersRise low next (x ∷ xs) = (low ≤ x.number) × NumbersRise (x.number + 1) next xs

-- the task that the name speaks of is there, and has given the name
abbrev pub IsGiven : List Task → Name → Type 0
IsGiven ts n = IsSomeAnd (slice_get ts n.task.0) (λ x. n.count < x.made)

-- each open is held, and its name is given; each table is in order of its numbers, and the next is above all of them
pub record IsSound (h : PortState) : Type 0 where
  pub settled : IsSettled h
  pub given : (n : Name) (o : Opened) → fin.get h.opens n ≡ Some o → IsGiven h.tasks n
  pub numbered : (t : ℕ) (x : Task) → slice_get h.tasks t ≡ Some x → NumbersRise 0 x.next x.ports
