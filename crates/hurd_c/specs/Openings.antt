-- What a program in C is said of a path that it opens.
use Rattle.std.specs.Prelude.{◌≡◌, ◌⊎◌, ℕ, List, [], Option, Some, None, Result, Ok, Err, length, option_map}
use Rattle.hurd_client.specs.Looking.{open_node}
use Rattle.hurd_client.specs.declared.opening.OpenHow.{OpenHow}
use Rattle.hurd_creds.specs.declared.errno.Errno.{Errno}
use Rattle.hurd_machine.specs.declared.call.Reply.TheVariants.{Port, Refused}
use Rattle.hurd_numbers.specs.Flags.{mode_at, open_flags_at}
use Rattle.hurd_numbers.specs.declared.calls.Numbers.{Numbers}
use Rattle.hurd_sitting.specs.Kept.{learners_in, told_in, world_in}
use Rattle.hurd_sitting.specs.Openings.{Ran, RanSome}
use Rattle.hurd_sitting.specs.declared.sitting.Sitting.{Sitting}
use Rattle.hurd_c.specs.Calls.{answered, unanswered}
use Rattle.hurd_c.specs.declared.calls.Answered.{Answered}

-- how numbers say that a node is opened, if all flags are known
abbrev pub how_at : Numbers → Option OpenHow
how_at n = option_map (λ flags. record { flags = flags; mode = mode_at n.mode }) (open_flags_at n.flags)

-- what is said of an opening that ended: its port, or its refusal
abbrev pub opened : Result ℕ Errno → ℕ → Answered
opened (Ok port) told = answered (Port port) told
opened (Err e) told = answered (Refused e) told

-- what is said of an opening that was not made to its end
abbrev pub unended : ℕ → ℕ → Answered
unended status told = record (unanswered status) { told = told }

-- a path was opened in a sitting
pub record IsOpened (how : OpenHow) (n : Numbers) (path : List ℕ) (old : Sitting) (answer : Answered) (new : Sitting) : Type 0 where
  pub end : Result ℕ Errno
  pub ran : Ran (learners_in old) (record { 0 = n.task }) (open_node n.port path how) (world_in old) end [] (told_in new) (world_in new)
  pub is : answer ≡ opened end (length (told_in new))

-- some first calls of its opening were made, and perhaps the next: one has no line, or memory was refused
pub record IsUnended (how : OpenHow) (n : Numbers) (path : List ℕ) (old : Sitting) (answer : Answered) (new : Sitting) : Type 0 where
  pub ran : RanSome (learners_in old) (record { 0 = n.task }) (open_node n.port path how) (world_in old) [] (told_in new) (world_in new)
  pub is : (answer ≡ unended 7 (length (told_in new))) ⊎ (answer ≡ unended 3 (length (told_in new)))

-- nothing changed
pub record IsUnopened (status : ℕ) (old : Sitting) (answer : Answered) (new : Sitting) : Type 0 where
  pub is : answer ≡ unanswered status
  pub sitting : new ≡ old

-- what becomes of an opening in a sitting: if a flag is unknown, nothing
abbrev pub OpenedIn : Option OpenHow → Numbers → List ℕ → Sitting → Answered → Sitting → Type 0
OpenedIn None n path old answer new = IsUnopened 7 old answer new
OpenedIn (Some how) n path old answer new = IsOpened how n path old answer new ⊎ (IsUnended how n path old answer new ⊎ IsUnopened 3 old answer new)

-- the same of what C keeps: if there is no world, nothing is opened, and there is none afterwards
abbrev pub OpenedOf : Numbers → List ℕ → Option Sitting → Answered → Option Sitting → Type 0
OpenedOf n path None answer None = answer ≡ unanswered 4
OpenedOf n path (Some old) answer (Some new) = OpenedIn (how_at n) n path old answer new
OpenedOf n path _ answer _ = ⊥
