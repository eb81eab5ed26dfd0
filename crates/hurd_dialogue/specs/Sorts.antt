-- A sort of texts, and what is printed of one.
use Rattle.std.specs.Prelude.{◌≡◌, ℕ, true, List, [], Option, Some, None, Result, Ok, Err}
use Rattle.hurd_creds.specs.declared.errno.Errno.{Errno}
use Rattle.hurd_creds.specs.declared.name.TaskId.{TaskId}
use Rattle.hurd_machine.specs.World.{World}
use Rattle.hurd_terminal.specs.Faults.{IsFront}
use Rattle.hurd_terminal.specs.Runs.{Program}
use Rattle.hurd_terminal.specs.declared.fault.Fault.{Fault}
use Rattle.hurd_terminal.specs.declared.fault.Fault.TheVariants.{Bad, Boot, Memory}
use Rattle.hurd_dialogue.specs.Parts.{Part, Way, joined, world_behind}

-- a sort of texts: what is said after the name of a file whose text is bad, and what in front of somebody who isn't in a text; what is done in it, as ` command`;
-- the line at which a text is bad, whether its world may begin, that world, and what it tells; by how many lines that say something its parts are preceded,
-- and one; the names of its tasks, if these have names; the task of a name, if it is in a text, and what the tasks of a word are called
pub record Sort : Type 0 where
  pub complaint : List ℕ → List ℕ
  pub stranger : List ℕ
  pub thing : List ℕ
  pub bad : List ℕ → Option ℕ
  pub boot : List ℕ → Result (Unit {0}) Errno
  pub world : List ℕ → World
  pub parts : List ℕ → List Part
  pub heading : List ℕ → ℕ
  pub names : List ℕ → List (List ℕ)
  pub finds : List ℕ → List ℕ → Option ℕ
  pub called : List ℕ → List TaskId → List ℕ

-- a text has all that it tells before it
pub record Begins (sort : Sort) (text : List ℕ) (way : Way) : Type 0 where
  pub good : sort.bad text ≡ None
  pub boots : sort.boot text ≡ Ok tt
  pub left : way.left ≡ sort.parts text
  pub world : way.world ≡ sort.world text
  pub told : way.told ≡ 0
  pub heading : way.heading ≡ sort.heading text
  pub names : way.names ≡ sort.names text
  pub finds : (name : List ℕ) → way.finds name ≡ sort.finds text name

-- why a text was not begun: it is bad at the line that is told, its world is refused, or memory was
abbrev pub NotBegun : Sort → List ℕ → Fault → Type 0
NotBegun sort text (Bad line) = sort.bad text ≡ Some line
NotBegun sort text (Boot e) = (sort.bad text ≡ None) × (sort.boot text ≡ Err e)
NotBegun sort text Memory = Unit {0}
NotBegun sort text _ = ⊥

-- the whole transcript of a text
abbrev pub transcript : Sort → List ℕ → List ℕ
transcript sort text = joined (sort.parts text)

-- the world at the end of a text
abbrev pub last_world : Sort → List ℕ → World
last_world sort text = world_behind (sort.world text) (sort.parts text)

-- the program that prints the transcript
abbrev pub running : Sort → Program
running sort = record {
  complaint = sort.complaint;
  stranger = [];
  bad = sort.bad;
  boot = sort.boot;
  known = λ text. true;
  IsAll = λ text printed. printed ≡ transcript sort text;
  IsPart = λ text printed. IsFront printed (transcript sort text);
}
