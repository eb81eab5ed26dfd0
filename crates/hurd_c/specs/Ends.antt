-- What a program in C is said, and what is copied for it.
use Rattle.std.specs.Prelude.{◌≡◌, ◌⊎◌, ℕ, List, [], ◌++◌, Option, Some, None, Result, Ok, Err, drop, length, take}
use Rattle.hurd_creds.specs.Errors.{number_of}
use Rattle.hurd_terminal.specs.declared.fault.Fault.{Fault}
use Rattle.hurd_terminal.specs.declared.fault.Fault.TheVariants.{Bad, Boot, Unknown}
use Rattle.hurd_dialogue.specs.Sorts.{NotBegun}
use Rattle.hurd_lists.specs.Lists.{reading_of}
use Rattle.hurd_calls.specs.Lists.{lists}
use Rattle.hurd_calls.specs.Readings.{said_in}
use Rattle.hurd_sitting.specs.Kept.{SameStand, SameWatch, learners_in, tasks_in, told_in, world_in}
use Rattle.hurd_sitting.specs.Sittings.{Begins, Makes, NotMade}
use Rattle.hurd_sitting.specs.Watching.{NotWatched, Watches}
use Rattle.hurd_sitting.specs.declared.sitting.Sitting.{Sitting}
use Rattle.hurd_c.specs.declared.said.Said.{Said}

-- what is said of an end, with how many bytes were told
abbrev pub said_of : Result (Unit {0}) Fault → ℕ → Said
said_of (Ok _) n = record { status = 0; error = 0; line = 0; length = n }
said_of (Err (Bad line)) n = record { status = 1; error = 0; line = line; length = n }
said_of (Err (Boot e)) n = record { status = 2; error = number_of e; line = 0; length = n }
said_of (Err Unknown) n = record { status = 5; error = 0; line = 0; length = n }
said_of (Err _) n = record { status = 3; error = 0; line = 0; length = n }

-- what is said by a status alone
abbrev pub status_only : ℕ → Said
status_only status = record { status = status; error = 0; line = 0; length = 0 }

-- what is said if there is no world
abbrev pub unmade : Said
unmade = status_only 4

-- what the last text told, where there is a world
abbrev pub told_of : Option Sitting → List ℕ
told_of None = []
told_of (Some sitting) = told_in sitting

-- bytes in place of as many others, as far as these go
abbrev pub over : List ℕ → List ℕ → List ℕ
over bytes others = take (length others) bytes ++ drop (length bytes) others

-- a list began a world, with all told; or there is none, and what is said is why
abbrev pub Began : List ℕ → Said → Option Sitting → Type 0
Began list said (Some sitting) = (said ≡ said_of (Ok tt) (length (told_in sitting))) × Begins list (told_in sitting) (world_in sitting)
Began list said None = (fault : Fault) × (said ≡ said_of (Err fault) 0) × NotBegun lists list fault

-- a world that a list began has its tasks, and nobody is told what they learn
abbrev pub BegunWith : List ℕ → Option Sitting → Type 0
BegunWith list None = Unit {0}
BegunWith list (Some sitting) = (tasks_in sitting ≡ length (said_in (reading_of list)).tasks) × (learners_in sitting ≡ None)

-- a text's calls were made in a sitting, or what is said is why they were not
abbrev pub MadeIn : List ℕ → Sitting → Said → Sitting → Type 0
MadeIn text old said new =
    ((said ≡ said_of (Ok tt) (length (told_in new))) × Makes (learners_in old) text (world_in old) (told_in new) (world_in new))
    ⊎ ((fault : Fault) × (said ≡ said_of (Err fault) (length (told_in new))) × NotMade (learners_in old) text fault (world_in old) (told_in new) (world_in new))

-- the same of what C keeps: where there is no world, nothing is made, and there is none afterwards
abbrev pub Made : List ℕ → Option Sitting → Said → Option Sitting → Type 0
Made text None said None = said ≡ unmade
Made text (Some old) said (Some new) = MadeIn text old said new
Made text _ said _ = ⊥

-- of what C keeps: the same tasks are there, and the same ones are told what they learn
abbrev pub KeepsWatch : Option Sitting → Option Sitting → Type 0
KeepsWatch None None = Unit {0}
KeepsWatch (Some old) (Some new) = SameWatch old new
KeepsWatch _ _ = ⊥

-- those that WHO names are told from now on what they learn, or what is said is why not, and then nothing changed
abbrev pub WatchedIn : List ℕ → Sitting → Said → Sitting → Type 0
WatchedIn who old said new =
    ((said ≡ said_of (Ok tt) (length (told_in old))) × Watches (tasks_in old) who (learners_in new) × SameStand old new)
    ⊎ ((fault : Fault) × (said ≡ said_of (Err fault) (length (told_in old))) × NotWatched (tasks_in old) who fault × (new ≡ old))

-- the same of what C keeps: where there is no world, there is none afterwards
abbrev pub Watched : List ℕ → Option Sitting → Said → Option Sitting → Type 0
Watched who None said None = said ≡ unmade
Watched who (Some old) said (Some new) = WatchedIn who old said new
Watched who _ said _ = ⊥
