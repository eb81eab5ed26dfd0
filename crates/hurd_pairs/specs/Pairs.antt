-- Pairs of scripts: the same users, of whom some give the same commands in both.
use Rattle.std.specs.Prelude.{map, string_bytes, ◌≡◌, ◌≢◌, ◌≤◌, ℕ, ◌+◌, Bool, true, List, [], ◌∷◌, Option, Some, None, drop, if◌then◌else◌, length, slice_get}
use Rattle.hurd_script.specs.Commands.{CommandLine}
use Rattle.hurd_script.specs.Script.{commands_of, names_of, users_of}
use Rattle.hurd_script.specs.declared.reader.Script.{Script}
use Rattle.hurd_shell.specs.Isolation.{commands_by}
use Rattle.hurd_pairs.specs.Moments.{FirstOther}
use Rattle.hurd_pairs.specs.declared.difference.Mismatch.{Mismatch}
use Rattle.hurd_pairs.specs.declared.difference.Mismatch.TheVariants.{Users, Commands}

-- two scripts have the same users, with the same ids
pub record HaveSameUsers (one two : List ℕ) : Type 0 where
  pub names : names_of one ≡ names_of two
  pub ids : users_of one ≡ users_of two

-- two scripts are a pair for tasks of S: these give the same commands in both
pub record IsPair (S : ℕ → Bool) (one two : List ℕ) : Type 0 where
  pub users : HaveSameUsers one two
  pub commands : commands_by S (commands_of one) ≡ commands_by S (commands_of two)

-- a command of theirs, if there is one more, and how many commands stand before it
pub record Own : Type 0 where
  pub made : ℕ
  pub command : Option CommandLine

-- the commands of tasks of S, of commands after so many; and at last the end
unfoldable pub own_from : (ℕ → Bool) → ℕ → List CommandLine → List Own
own_from S made [] = record { made = made; command = None } ∷ []
own_from S made (c ∷ cs) =
    if S c.task then record { made = made; command = Some c } ∷ own_from S (made + 1) cs
    else own_from S (made + 1) cs

-- these are the first commands of theirs that aren't the same, by how many stand before each
abbrev pub FirstOtherCommand : (ℕ → Bool) → List CommandLine → List CommandLine → ℕ → ℕ → Type 0
FirstOtherCommand S cs ds m n =
    (x y : Own) × FirstOther (λ (a : Own) b. a.command ≡ b.command) (λ (a : Own) b. a.command ≢ b.command) (own_from S 0 cs) (own_from S 0 ds) (Some (x, y)) × (x.made ≡ m) × (y.made ≡ n)

-- why two scripts are no pair for tasks of S, if they are none
abbrev pub Mismatches : (ℕ → Bool) → List ℕ → List ℕ → Option Mismatch → Type 0
Mismatches S one two None = IsPair S one two
Mismatches S one two (Some Users) = HaveSameUsers one two → ⊥
Mismatches S one two (Some (Commands m n)) = HaveSameUsers one two × FirstOtherCommand S (commands_of one) (commands_of two) m n

-- where tasks of S first give another command, if they do
abbrev pub CommandsDiffer : (ℕ → Bool) → List CommandLine → List CommandLine → Option Mismatch → Type 0
CommandsDiffer S cs ds None = commands_by S cs ≡ commands_by S ds
CommandsDiffer S cs ds (Some Users) = ⊥
CommandsDiffer S cs ds (Some (Commands m n)) = FirstOtherCommand S cs ds m n

-- the next command of a task of S from a place on is here, or none is left
pub record IsNextOwn (S : ℕ → Bool) (cs : List CommandLine) (from at : ℕ) : Type 0 where
  pub behind : from ≤ at
  pub within : at ≤ length cs
  pub same : own_from S from (drop from cs) ≡ own_from S at (drop at cs)
  pub own : (c : CommandLine) → slice_get cs at ≡ Some c → S c.task ≡ true

-- what was read of a script is what its text says
pub record IsRead (s : Script) (text : List ℕ) : Type 0 where
  pub names : map string_bytes s.names.items ≡ names_of text
  pub ids : s.users.items ≡ users_of text
  pub commands : s.commands.items ≡ commands_of text
