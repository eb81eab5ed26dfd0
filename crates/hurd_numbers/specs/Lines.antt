-- The line of a list that makes the call of numbers and bytes.
use Rattle.std.specs.Prelude.{◌≡◌, ℕ, List, [], ◌∷◌, Option, Some, Ok}
use Rattle.hurd_creds.specs.declared.name.TaskId.{TaskId}
use Rattle.hurd_trans_iface.specs.Meaning.{Meaning}
use Rattle.hurd_machine.specs.Calls.{start_call}
use Rattle.hurd_lists.specs.Lists.{Listed, Standing, reading_of}
use Rattle.hurd_numbers.specs.Calls.{numbered}
use Rattle.hurd_numbers.specs.declared.calls.Numbers.{Numbers}

-- these calls are this one alone, with a line of its own
abbrev pub IsOnly : List Listed → Listed → Type 0
IsOnly calls c = (line : List ℕ) × (calls ≡ record c { line = line } ∷ [])

-- no task is said, and this one call
abbrev pub HasOnly : Standing → Listed → Type 0
HasOnly s c = (s.tasks ≡ []) × IsOnly s.calls c

-- a line that is read as the call of numbers and bytes, and as nothing else
pub record IsLineOf (n : Numbers) (bytes line : List ℕ) : Type 0 where
  pub call : Listed
  pub is : numbered n bytes ≡ Some call
  pub said : Standing
  pub reads : reading_of line ≡ Ok said
  pub only : HasOnly said call

-- a call with its line: a text says it, and nothing else
pub record HasLine (c listed : Listed) : Type 0 where
  pub is : listed ≡ record c { line = listed.line }
  pub text : List ℕ
  pub reads : reading_of text ≡ Ok (record { tasks = []; calls = listed ∷ [] })

-- the call of numbers and bytes, with its line
abbrev pub IsListed : Numbers → List ℕ → Listed → Type 0
IsListed n bytes listed = (c : Listed) × (numbered n bytes ≡ Some c) × HasLine c listed

-- a task starts a translator with a server, or gives the start up without one
abbrev pub start_of : TaskId → Option Meaning → Listed
start_of task server = record { task = task; call = start_call server; line = [] }
