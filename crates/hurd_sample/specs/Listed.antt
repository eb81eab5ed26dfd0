-- What a sample's list says.
use Rattle.std.specs.Prelude.{◌≡◌, ℕ, Result, Ok, Err, length}
use Rattle.hurd_lists.specs.Flaws.{BadLine}
use Rattle.hurd_lists.specs.Lists.{Standing}

-- a list is good, and says so many calls
abbrev pub HasCalls : ℕ → Result Standing BadLine → Type 0
HasCalls count (Ok said) = length said.calls ≡ count
HasCalls count (Err bad) = ⊥
