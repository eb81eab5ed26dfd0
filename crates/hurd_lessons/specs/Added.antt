-- Lines that are added to a text.
use Rattle.std.specs.Prelude.{◌≡◌, ℕ, List, ◌++◌, Option, Some, None}
use Rattle.hurd_creds.specs.declared.name.Name.{Name}
use Rattle.hurd_lessons.specs.Lessons.{Lines}

-- a text of which P holds is added
abbrev pub Adds : (List ℕ → Type 0) → List ℕ → List ℕ → Type 0
Adds P old new = (t : List ℕ) × (new ≡ old ++ t) × P t

-- one text is added for each of these names
abbrev pub AddsLines : (Name → List ℕ → Type 0) → List Name → List ℕ → List ℕ → Type 0
AddsLines P ns old new = Adds (Lines P ns) old new

-- and for a name, if there is one
abbrev pub AddsAt : (Name → List ℕ → Type 0) → Option Name → List ℕ → List ℕ → Type 0
AddsAt P None old new = new ≡ old
AddsAt P (Some n) old new = Adds (P n) old new
