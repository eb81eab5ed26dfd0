-- Who is told what they learn, by the numbers of their tasks.
use Rattle.std.specs.Prelude.{◌≡◌, ℕ, List, [], ◌∷◌, Option, Some, None}
use Rattle.hurd_calls.specs.Tasks.{called, task_of}
use Rattle.hurd_machine.specs.World.{World}
use Rattle.hurd_terminal.specs.declared.fault.Fault.{Fault}
use Rattle.hurd_terminal.specs.declared.fault.Fault.TheVariants.{Memory, Unknown}
use Rattle.hurd_teaching.specs.Learners.{AreNamed, tasks_named}
use Rattle.hurd_teaching.specs.Watched.{SeenOf}
use Rattle.hurd_teaching.specs.declared.learners.Learners.{Learners}
use Rattle.hurd_views.specs.declared.view.View.{View}

-- of so many tasks, those whose numbers stand in a word between commas are told what they learn, under these names and at once; for no bytes nobody is
abbrev pub Watches : ℕ → List ℕ → Option Learners → Type 0
Watches count [] learners = learners ≡ None
Watches count (b ∷ bs) None = ⊥
Watches count (b ∷ bs) (Some learners) = AreNamed (tasks_named (task_of count) (b ∷ bs)) (called (b ∷ bs)) [] 0 learners

-- why they are not: one of them isn't there, or memory was refused; for no bytes there is no reason
abbrev pub NotWatched : ℕ → List ℕ → Fault → Type 0
NotWatched count [] fault = ⊥
NotWatched count (b ∷ bs) Unknown = tasks_named (task_of count) (b ∷ bs) ≡ None
NotWatched count (b ∷ bs) Memory = Unit {0}
NotWatched count (b ∷ bs) _ = ⊥

-- what was seen, if there was a look, was this world's
abbrev pub SeenBy : Option Learners → World → Option View → Type 0
SeenBy None w seen = Unit {0}
SeenBy (Some learners) w seen = SeenOf learners.tasks.items w seen
