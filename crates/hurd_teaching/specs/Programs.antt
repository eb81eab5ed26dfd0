-- What a program of learners prints of a text.
use Rattle.std.specs.Prelude.{◌≡◌, ℕ, List, [], ◌++◌, Option, codes, drop, is_some, true}
use Rattle.hurd_dialogue.specs.Sorts.{Sort, last_world}
use Rattle.hurd_words.specs.Escapes.{escaped}
use Rattle.hurd_terminal.specs.Faults.{IsFront}
use Rattle.hurd_terminal.specs.Runs.{Program}
use Rattle.hurd_words.specs.Lines.{lines_of}
use Rattle.hurd_teaching.specs.Learners.{AreNamed, tasks_named}
use Rattle.hurd_teaching.specs.Limits.{shortened}
use Rattle.hurd_teaching.specs.Looks.{asks_of, starts_of}
use Rattle.hurd_teaching.specs.Shown.{Front, Whole}
use Rattle.hurd_teaching.specs.Telling.{Shows}
use Rattle.hurd_teaching.specs.declared.learners.Learners.{Learners}

-- those that WHO names of a text are these
abbrev pub AreThese : Sort → List ℕ → List ℕ → Learners → Type 0
AreThese sort word text learners =
    AreNamed (tasks_named (sort.finds text) word) (sort.called word) (drop (sort.heading text) (asks_of (lines_of text))) (starts_of (sort.heading text) (lines_of text)) learners

-- the same of a text that asks for nothing: lessons begin at once
abbrev pub AreAtOnce : Sort → List ℕ → List ℕ → Learners → Type 0
AreAtOnce sort word text learners = AreNamed (tasks_named (sort.finds text) word) (sort.called word) [] 0 learners

-- the program that prints a text with what those that WHO names learn, by who these are: of each lesson, and of what they see each time that a text asks, at
-- most so many bytes, if that is limited
abbrev pub learning_by : (List ℕ → Learners → Type 0) → Sort → Option ℕ → List ℕ → Program
learning_by Are sort most word = record {
  complaint = sort.complaint;
  stranger = sort.stranger ++ (escaped word ++ codes "\n");
  bad = sort.bad;
  boot = sort.boot;
  known = λ text. is_some (tasks_named (sort.finds text) word);
  IsAll = λ text printed. (learners : Learners) × Are text learners × Whole most learners sort.thing (sort.world text) (sort.parts text) printed;
  IsPart = λ text printed. (learners : Learners) × Are text learners × Front most learners sort.thing (sort.world text) (sort.parts text) printed;
}

abbrev pub learning : Sort → Option ℕ → List ℕ → Program
learning sort most word = learning_by (AreThese sort word) sort most word

-- all that those that WHO names see is printed so, as they see it at the end of a text; or at most so many bytes of it
abbrev pub SeenAtEnd : (List ℕ → Learners → Type 0) → Sort → Option ℕ → List ℕ → List ℕ → Type 0
SeenAtEnd Are sort most text printed =
    (learners : Learners) × Are text learners
    × (all : List ℕ) × Shows learners.tasks.items learners.sees.items true (last_world sort text) all × (printed ≡ shortened most learners.sees.items all)

-- the program that prints that
abbrev pub seeing_by : (List ℕ → Learners → Type 0) → Sort → Option ℕ → List ℕ → Program
seeing_by Are sort most word = record {
  complaint = sort.complaint;
  stranger = sort.stranger ++ (escaped word ++ codes "\n");
  bad = sort.bad;
  boot = sort.boot;
  known = λ text. is_some (tasks_named (sort.finds text) word);
  IsAll = SeenAtEnd Are sort most;
  IsPart = λ text printed. (all : List ℕ) × SeenAtEnd Are sort most text all × IsFront printed all;
}

abbrev pub seeing : Sort → Option ℕ → List ℕ → Program
seeing sort most word = seeing_by (AreThese sort word) sort most word

-- a program prints one text of each: all that is printed of a text is one, and any part of it is a front of that
pub record PrintsOneText (p : Program) : Type 0 where
  pub one : (text s t : List ℕ) → p.IsAll text s → p.IsAll text t → s ≡ t
  pub front : (text s t : List ℕ) → p.IsPart text s → p.IsAll text t → IsFront s t
