-- What is told of a text in memory.
use Rattle.std.specs.Prelude.{◌≡◌, ℕ, false, List, [], Some, None, Result, Ok, Err}
use Rattle.hurd_terminal.specs.Runs.{IsTaken, Program}
use Rattle.hurd_terminal.specs.declared.fault.Fault.{Fault}
use Rattle.hurd_terminal.specs.declared.fault.Fault.TheVariants.{Bad, Unknown, Boot, Memory}

-- what is said of a fault after the name of a file: why its text is bad, or who isn't in it; nothing where a world is refused
abbrev pub IsWhy : Program → List ℕ → Fault → List ℕ → Type 0
IsWhy p text (Bad line) said = said ≡ p.complaint text
IsWhy p text Unknown said = said ≡ p.stranger
IsWhy p text (Boot e) said = said ≡ []
IsWhy p text _ said = ⊥

-- what is told of a text, by how that ends: all that is printed of it, or why there is nothing
abbrev pub Tells : Program → List ℕ → Result (Unit {0}) Fault → List ℕ → Type 0
Tells p text (Ok _) told = IsTaken p text × p.IsAll text told
Tells p text (Err (Bad line)) told = (p.bad text ≡ Some line) × (told ≡ p.complaint text)
Tells p text (Err Unknown) told = (p.bad text ≡ None) × (p.known text ≡ false) × (told ≡ p.stranger)
Tells p text (Err (Boot e)) told = (p.bad text ≡ None) × (p.boot text ≡ Err e) × (told ≡ [])
Tells p text (Err Memory) told = told ≡ []
Tells p text (Err _) told = ⊥
