-- The tasks that are told what they learn.
use Rattle.std.specs.Prelude.{◌≡◌, ◌||◌, ◌==◌, ℕ, Bool, true, false, List, [], ◌∷◌, ◌++◌, Option, Some, None, if◌then◌else◌, codes, length, map, nat_lt}
use Rattle.std.specs.List.{slice_split}
use Rattle.hurd_creds.specs.declared.name.TaskId.{TaskId}
use Rattle.hurd_sight.specs.Reach.{among}
use Rattle.hurd_words.specs.Reading.{Refuses, Takes}
use Rattle.hurd_words.specs.Words.{onto}
use Rattle.hurd_teaching.specs.declared.learners.Learners.{Learners}

-- the numbers of tasks
abbrev pub numbers : List TaskId → List ℕ
numbers tasks = map (λ (t : TaskId). t.0) tasks

-- the tasks of these names, if each has one
unfoldable pub tasks_of : (List ℕ → Option ℕ) → List (List ℕ) → Option (List ℕ)
tasks_of finds [] = Some []
tasks_of finds (name ∷ names) = onto (finds name) (tasks_of finds names)

-- the tasks of those whose names stand in a word between commas
abbrev pub tasks_named : (List ℕ → Option ℕ) → List ℕ → Option (List ℕ)
tasks_named finds word = tasks_of finds (slice_split (λ b. b == 44) word)

-- one name more is read: its task is taken, whatever names follow, or there is none
abbrev pub AddsName : (List ℕ → Option ℕ) → List ℕ → List ℕ → Bool → List ℕ → Type 0
AddsName finds name before true after = Takes (tasks_of finds) name before after
AddsName finds name before false after = Refuses (tasks_of finds) name

-- what comes after the names of those who learn
abbrev pub verb_of : List TaskId → List ℕ
verb_of tasks = if nat_lt 1 (length tasks) then codes " learn" else codes " learns"

-- and where it is told what they see
abbrev pub see_of : List TaskId → List ℕ
see_of tasks = if nat_lt 1 (length tasks) then codes " see" else codes " sees"

-- these tasks, under these names, these looks, and where lessons begin
pub record AreCalled (these : List TaskId) (called : List ℕ) (asked : List Bool) (from : ℕ) (learners : Learners) : Type 0 where
  pub tasks : learners.tasks.items ≡ these
  pub who : learners.who.items ≡ called ++ verb_of these
  pub sees : learners.sees.items ≡ called ++ see_of these
  pub names : learners.names.items ≡ called
  pub looks : learners.looks.items ≡ asked
  pub starts : learners.from ≡ from

-- the tasks that are named, under the names by which such tasks are called, these looks, and where lessons begin
pub record AreNamed (named : Option (List ℕ)) (called : List TaskId → List ℕ) (asked : List Bool) (from : ℕ) (learners : Learners) : Type 0 where
  pub tasks : named ≡ Some (numbers learners.tasks.items)
  pub who : learners.who.items ≡ called learners.tasks.items ++ verb_of learners.tasks.items
  pub sees : learners.sees.items ≡ called learners.tasks.items ++ see_of learners.tasks.items
  pub names : learners.names.items ≡ called learners.tasks.items
  pub looks : learners.looks.items ≡ asked
  pub starts : learners.from ≡ from

-- those, or none where somebody is named who isn't known
abbrev pub Named : Option (List ℕ) → (List TaskId → List ℕ) → List Bool → ℕ → Option Learners → Type 0
Named named called asked from None = named ≡ None
Named named called asked from (Some learners) = AreNamed named called asked from learners

-- how it is written what tasks learn and what they see, where it is asked what they see, and how many things are done before lessons begin
pub record Speech : Type 0 where
  pub learns : List ℕ
  pub sees : List ℕ
  pub looks : List Bool
  pub from : ℕ

abbrev pub speech : Learners → Speech
speech learners = record { learns = learners.who.items; sees = learners.sees.items; looks = learners.looks.items; from = learners.from }

-- whether nothing is said of what a task does where so many things are done: it is one of these, or lessons have not begun
abbrev pub is_quiet : List TaskId → ℕ → ℕ → ℕ → Bool
is_quiet tasks from made task = nat_lt made from || among tasks task

-- and so of what is next; of nothing, nothing is said
abbrev pub is_next_quiet : List TaskId → ℕ → ℕ → Option ℕ → Bool
is_next_quiet tasks from made None = true
is_next_quiet tasks from made (Some task) = is_quiet tasks from made task
