-- The picture of a text.
use Rattle.std.specs.Prelude.{◌≡◌, ℕ, Bool, true, List, [], ◌++◌, Option, Some, None, codes, is_some}
use Rattle.hurd_creds.specs.declared.name.TaskId.{TaskId}
use Rattle.hurd_machine.specs.World.{World}
use Rattle.hurd_dialogue.specs.Sorts.{Sort, last_world}
use Rattle.hurd_pictures.specs.Pictures.{picture}
use Rattle.hurd_pictures.specs.declared.names.Titles.{Titles}
use Rattle.hurd_teaching.specs.Learners.{tasks_named}
use Rattle.hurd_teaching.specs.Programs.{AreThese}
use Rattle.hurd_teaching.specs.declared.learners.Learners.{Learners}
use Rattle.hurd_terminal.specs.Faults.{IsFront}
use Rattle.hurd_terminal.specs.Runs.{Program}
use Rattle.hurd_views.specs.Views.{Views}
use Rattle.hurd_views.specs.declared.view.View.{View}
use Rattle.hurd_words.specs.Escapes.{escaped}
use Rattle.hurd_teaching.specs.Aides.{aides_if}
use Rattle.hurd_teaching.specs.Owners.{all_tasks, owners_of}

-- those whose sight is marked, what is written of them, as `alice sees`, and the tasks of the wider view, if one is wanted
pub record Marked : Type 0 where
  pub tasks : List TaskId
  pub called : List ℕ
  pub wide : Option (List TaskId)

-- those who learn are marked; the wider view, if it is wanted, is of them and of all without root's uid
abbrev pub marked_by : Bool → Learners → World → Marked
marked_by can learners w = record {
  tasks = learners.tasks.items;
  called = learners.sees.items;
  wide = aides_if can learners.tasks.items w.tasks;
}

-- those who are marked, if any are
abbrev pub marked_tasks : Option Marked → Option (List TaskId)
marked_tasks None = None
marked_tasks (Some marked) = Some marked.tasks

-- the tasks of the wider view, if there is one
abbrev pub wide_tasks : Option Marked → Option (List TaskId)
wide_tasks None = None
wide_tasks (Some marked) = marked.wide

-- what is written of those who are marked
abbrev pub called_of : Option Marked → List ℕ
called_of None = []
called_of (Some marked) = marked.called

-- what these tasks see of a world together, if there are any
abbrev pub SeenBy : Option (List TaskId) → World → Option View → Type 0
SeenBy None w seen = seen ≡ None
SeenBy (Some tasks) w seen = (view : View) × (seen ≡ Some view) × Views tasks w view

-- a text is the picture of all that a world's tasks see together, by these names, with what others see, and a wider view
pub record IsPicture (names : List (List ℕ)) (who : List ℕ) (seen wide : Option View) (w : World) (text : List ℕ) : Type 0 where
  pub titles : Titles
  pub named : titles.tasks.items ≡ names
  pub owned : titles.owners.items ≡ owners_of names w.tasks
  pub view : View
  pub all : Views (all_tasks w.tasks) w view
  pub is : text ≡ picture titles (all_tasks w.tasks) view who seen wide

-- the same with what those see who are marked, and with the wider view that is wanted
pub record IsDrawn (names : List (List ℕ)) (marked : Option Marked) (w : World) (text : List ℕ) : Type 0 where
  pub seen : Option View
  pub theirs : SeenBy (marked_tasks marked) w seen
  pub wide : Option View
  pub helped : SeenBy (wide_tasks marked) w wide
  pub is : IsPicture names (called_of marked) seen wide w text

-- the picture of a text at its end, marked with what WHO see, and with what others could show them, if that is wanted
abbrev pub DrawnFor : (List ℕ → List ℕ → Learners → Type 0) → Sort → Bool → Option (List ℕ) → List ℕ → List ℕ → Type 0
DrawnFor Are sort can None text printed = IsDrawn (sort.names text) None (last_world sort text) printed
DrawnFor Are sort can (Some word) text printed =
    (learners : Learners) × Are word text learners
    × IsDrawn (sort.names text) (Some (marked_by can learners (last_world sort text))) (last_world sort text) printed

-- what is said where one of these isn't in a text
abbrev pub stranger_of : Sort → Option (List ℕ) → List ℕ
stranger_of sort None = []
stranger_of sort (Some word) = sort.stranger ++ (escaped word ++ codes "\n")

-- whether all these are in a text
abbrev pub are_known : Sort → Option (List ℕ) → List ℕ → Bool
are_known sort None text = true
are_known sort (Some word) text = is_some (tasks_named (sort.finds text) word)

-- the program that prints it, by who those are that a word names of a text
abbrev pub drawing_by : (List ℕ → List ℕ → Learners → Type 0) → Sort → Bool → Option (List ℕ) → Program
drawing_by Are sort can who = record {
  complaint = sort.complaint;
  stranger = stranger_of sort who;
  bad = sort.bad;
  boot = sort.boot;
  known = are_known sort who;
  IsAll = λ text printed. DrawnFor Are sort can who text printed;
  IsPart = λ text printed. (all : List ℕ) × DrawnFor Are sort can who text all × IsFront printed all;
}

abbrev pub drawing : Sort → Bool → Option (List ℕ) → Program
drawing sort can who = drawing_by (AreThese sort) sort can who
