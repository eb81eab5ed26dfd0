-- What a program in C is said of a whole text, and what is copied for it.
use Rattle.std.specs.Prelude.{◌≡◌, ◌⊎◌, ℕ, zero, suc, List, [], ◌∷◌, Option, Some, None, Result, Err, IsUtf8, MatchOption, length}
use Rattle.hurd_calls.specs.Lists.{lists}
use Rattle.hurd_dialogue.specs.Sorts.{Sort}
use Rattle.hurd_shell.specs.Scripts.{scripts}
use Rattle.hurd_terminal.specs.Runs.{Program}
use Rattle.hurd_terminal.specs.declared.fault.Fault.{Fault}
use Rattle.hurd_terminal.specs.declared.fault.Fault.TheVariants.{Unknown, Memory}
use Rattle.hurd_program.specs.Answers.{Tells}
use Rattle.hurd_c.specs.Ends.{over, said_of, status_only}
use Rattle.hurd_c.specs.declared.said.Said.{Said}

-- what is said if there is no such sort of texts
abbrev pub unsorted : Said
unsorted = status_only 6

-- the sort of texts of a number
abbrev pub sort_at : ℕ → Option Sort
sort_at zero = Some scripts
sort_at (suc zero) = Some lists
sort_at _ = None

-- what a program tells of a text is copied as far as there is room, and how it ended is said
abbrev pub Copies : Program → List ℕ → Said → List ℕ → List ℕ → Type 0
Copies p text said old new =
    (ended : Result (Unit {0}) Fault) × (told : List ℕ) × Tells p text ended told × (said ≡ said_of ended (length told)) × (new ≡ over told old)

-- this is said, and nothing is copied
abbrev pub OnlySays : Said → Said → List ℕ → List ℕ → Type 0
OnlySays this said old new = (said ≡ this) × (new ≡ old)

-- what a program of a sort tells of a text is copied, where there is a sort of this number
abbrev pub OfSort : ℕ → (Sort → Program) → List ℕ → Said → List ℕ → List ℕ → Type 0
OfSort number program text said old new = MatchOption (sort_at number) (OnlySays unsorted said old new) (λ sort. Copies (program sort) text said old new)

-- what is told of those that WHO names; one that is no UTF-8 names nobody
abbrev pub CopiesOf : List ℕ → Program → List ℕ → Said → List ℕ → List ℕ → Type 0
CopiesOf who p text said old new = (IsUtf8 who × Copies p text said old new) ⊎ ((IsUtf8 who → ⊥) × OnlySays (said_of (Err Unknown) 0) said old new)

-- the same, where there is a sort of this number
abbrev pub OfSome : List ℕ → ℕ → (Sort → Program) → List ℕ → Said → List ℕ → List ℕ → Type 0
OfSome who number program text said old new = MatchOption (sort_at number) (OnlySays unsorted said old new) (λ sort. CopiesOf who (program sort) text said old new)

-- why a word names none: it is no UTF-8, or memory was refused
abbrev pub IsUnnamed : List ℕ → Fault → Type 0
IsUnnamed who fault = ((fault ≡ Unknown) × (IsUtf8 who → ⊥)) ⊎ ((fault ≡ Memory) × IsUtf8 who)

-- those whose sight is marked, by a word: nobody's by one of no bytes
abbrev pub marked_in : List ℕ → Option (List ℕ)
marked_in [] = None
marked_in (byte ∷ bytes) = Some (byte ∷ bytes)
