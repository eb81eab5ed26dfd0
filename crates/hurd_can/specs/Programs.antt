-- The program that prints who could help those that WHO names to see what.
use Rattle.std.specs.Prelude.{ℕ, Bool, if◌then◌else◌, List, [], ◌∷◌, ◌++◌, codes, is_some}
use Rattle.hurd_creds.specs.declared.name.TaskId.{TaskId}
use Rattle.hurd_dialogue.specs.Sorts.{Sort, last_world}
use Rattle.hurd_machine.specs.World.{World}
use Rattle.hurd_sight.specs.Reach.{among}
use Rattle.hurd_sight.specs.declared.parts.SeenPart.{SeenPart}
use Rattle.hurd_teaching.specs.Learners.{tasks_named}
use Rattle.hurd_teaching.specs.Owners.{all_tasks}
use Rattle.hurd_teaching.specs.Programs.{AreThese}
use Rattle.hurd_teaching.specs.declared.learners.Learners.{Learners}
use Rattle.hurd_terminal.specs.Faults.{IsFront}
use Rattle.hurd_terminal.specs.Runs.{Program}
use Rattle.hurd_views.specs.Views.{Views}
use Rattle.hurd_views.specs.declared.view.View.{View}
use Rattle.hurd_words.specs.Escapes.{escaped}
use Rattle.hurd_can.specs.Dated.{worlds_from}
use Rattle.hurd_can.specs.Help.{AreHelped, Help, Picks}
use Rattle.hurd_can.specs.Listed.{Unseen, listed}
use Rattle.hurd_can.specs.Remembered.{Each, Remembers}
use Rattle.hurd_can.specs.Saying.{Asked, SaysAll}
use Rattle.hurd_can.specs.declared.coulds.Asking.{Asking}

-- those of these tasks that are none of those
abbrev pub others_of : List TaskId → List TaskId → List TaskId
others_of who [] = []
others_of who (t ∷ ts) = if among who t.0 then others_of who ts else t ∷ others_of who ts

-- a text is what could be shown WHO, in the world w: of the parts that are listed of what all its tasks see together, those that WHO don't see,
-- each with the others who could help to see it now, and with those who saw it so in one of these worlds; and with the ways to show it, if they are wanted
pub record IsCould (a : Asked) (every : Bool) (worlds : List World) (w : World) (text : List ℕ) : Type 0 where
  pub view : View
  pub all : Views (all_tasks w.tasks) w view
  pub parts : List SeenPart
  pub unseen : Picks (Unseen w a.who) (listed every view) parts
  pub helps : List Help
  pub helped : AreHelped w a.who (others_of a.who (all_tasks w.tasks)) parts helps
  pub noted : List Help
  pub remembered : Each (Remembers worlds view (all_tasks w.tasks)) helps noted
  pub says : SaysAll a view w.tasks (all_tasks w.tasks) noted text

-- what is asked of a text for these learners
abbrev pub asked : Sort → Bool → List ℕ → List (List ℕ) → Learners → Asked
asked sort how text names learners =
    record { sort = sort; script = text; names = names; who = learners.tasks.items; called = learners.names.items; sees = learners.sees.items; how = how }

abbrev pub asking_of : Sort → Asking → Asked
asking_of sort a = asked sort a.how a.script.now a.names.now a.learners.now

-- what could be shown those that WHO names, at the end of a text
abbrev pub CouldAtEnd : Sort → Bool → Bool → List ℕ → List ℕ → List ℕ → Type 0
CouldAtEnd sort every how word text printed =
    (learners : Learners) × AreThese sort word text learners
    × IsCould (asked sort how text (sort.names text) learners) every (worlds_from (sort.world text) (sort.parts text)) (last_world sort text) printed

-- the program that prints it
abbrev pub could : Sort → Bool → Bool → List ℕ → Program
could sort every how word = record {
  complaint = sort.complaint;
  stranger = sort.stranger ++ (escaped word ++ codes "\n");
  bad = sort.bad;
  boot = sort.boot;
  known = λ text. is_some (tasks_named (sort.finds text) word);
  IsAll = CouldAtEnd sort every how word;
  IsPart = λ text printed. (all : List ℕ) × CouldAtEnd sort every how word text all × IsFront printed all;
}
