-- What a sitting tells, a text at a time.
use Rattle.std.specs.Prelude.{◌≡◌, ◌⊎◌, ℕ, ◌++◌, List, [], ◌∷◌, Option, Some, None, Result, Ok, Err, map}
use Rattle.hurd_creds.specs.Access.{IdSets}
use Rattle.hurd_kinds.specs.Boxes.{box_meaning}
use Rattle.hurd_kinds.specs.declared.server_box.ServerBox.{ServerBox}
use Rattle.hurd_lists.specs.Flaws.{BadLine}
use Rattle.hurd_lists.specs.Lists.{Listed, Standing, listed_by, reading_of}
use Rattle.hurd_lists.specs.declared.reader.ListedCall.{ListedCall}
use Rattle.hurd_machine.specs.World.{World}
use Rattle.hurd_tmpfs.specs.Tree.{new_tmpfs}
use Rattle.hurd_world.specs.Boot.{boot_of, first_world}
use Rattle.hurd_dialogue.specs.Parts.{joined, world_behind}
use Rattle.hurd_calls.specs.Making.{parts_of}
use Rattle.hurd_lessons.specs.Told.{Said}
use Rattle.hurd_terminal.specs.declared.fault.Fault.{Fault}
use Rattle.hurd_terminal.specs.declared.fault.Fault.TheVariants.{Bad, Memory}
use Rattle.hurd_teaching.specs.Learners.{Speech}
use Rattle.hurd_teaching.specs.Lessons.{LessonsOf, told_text}
use Rattle.hurd_teaching.specs.declared.learners.Learners.{Learners}

-- what calls tell that are made one after another
abbrev pub told_by : List Listed → World → List ℕ
told_by calls w = joined (parts_of calls w)

-- the world after them
abbrev pub behind : List Listed → World → World
behind calls w = world_behind w (parts_of calls w)

-- how it is written what these learn: lessons begin at once, and what they see is not shown
abbrev pub at_once : Learners → Speech
at_once learners = record { learns = learners.who.items; sees = learners.sees.items; looks = []; from = 0 }

-- what calls tell: their parts; or, for those who are told what they learn, a paragraph for each
abbrev pub Tells : Option Learners → List Listed → World → List ℕ → Type 0
Tells None calls w text = text ≡ told_by calls w
Tells (Some learners) calls w text =
    (said : List Said) × LessonsOf learners.tasks.items (at_once learners) 0 w (parts_of calls w) said × (text ≡ told_text (parts_of calls w) said)

-- after what was told before stands what calls tell
abbrev pub Adds : Option Learners → List Listed → World → List ℕ → List ℕ → Type 0
Adds learners calls w before told = (text : List ℕ) × Tells learners calls w text × (told ≡ before ++ text)

-- what calls say that were read
abbrev pub listed : List (ListedCall ServerBox) → List Listed
listed calls = map (listed_by box_meaning) calls

-- world x is after some first calls and the next of the rest
abbrev pub NextMade : List Listed → List Listed → World → World → Type 0
NextMade first [] w x = ⊥
NextMade first (c ∷ more) w x = x ≡ behind (first ++ c ∷ []) w

-- after what was told before stands what some first calls tell that were made in world w; world x is after these, or also after the next, which told nothing
pub record SomeMade (learners : Option Learners) (calls : List Listed) (w : World) (before told : List ℕ) (x : World) : Type 0 where
  pub first : List Listed
  pub rest : List Listed
  pub split : calls ≡ first ++ rest
  pub tells : Adds learners first w before told
  pub leaves : (x ≡ behind first w) ⊎ NextMade first rest w x

-- a list begins a sitting: its calls were made over an empty tree in memory, this was told, and this world is after them
pub record Begins (list told : List ℕ) (world : World) : Type 0 where
  pub said : Standing
  pub reads : reading_of list ≡ Ok said
  pub boots : boot_of new_tmpfs said.tasks ≡ Ok tt
  pub tells : told ≡ told_by said.calls (first_world new_tmpfs said.tasks)
  pub leaves : world ≡ behind said.calls (first_world new_tmpfs said.tasks)

-- the calls of a text that has no tasks; one with a task is bad at line 0
abbrev pub without_tasks : List IdSets → List Listed → Result (List Listed) ℕ
without_tasks [] calls = Ok calls
without_tasks (ids ∷ more) calls = Err 0

-- the calls of a text of calls alone, or the line at which it is bad
abbrev pub calls_in : Result Standing BadLine → Result (List Listed) ℕ
calls_in (Ok said) = without_tasks said.tasks said.calls
calls_in (Err bad) = Err bad.line

-- a text's calls were made in world w, this was told, and world x is after them
pub record Makes (learners : Option Learners) (text : List ℕ) (w : World) (told : List ℕ) (x : World) : Type 0 where
  pub calls : List Listed
  pub reads : calls_in (reading_of text) ≡ Ok calls
  pub tells : Tells learners calls w told
  pub leaves : x ≡ behind calls w

-- nothing was told, and the world is as it was
abbrev pub NothingMade : World → List ℕ → World → Type 0
NothingMade w told x = (told ≡ []) × (x ≡ w)

-- a text's calls were made in world w until memory was refused: this was told, and this world was left
pub record MakesSome (learners : Option Learners) (text : List ℕ) (w : World) (told : List ℕ) (x : World) : Type 0 where
  pub calls : List Listed
  pub reads : calls_in (reading_of text) ≡ Ok calls
  pub some : SomeMade learners calls w [] told x

-- why a text's calls were not all made: it is bad at the line that is told, and then none was; or memory was refused, to read it or at one of its calls
abbrev pub NotMade : Option Learners → List ℕ → Fault → World → List ℕ → World → Type 0
NotMade learners text (Bad line) w told x = (calls_in (reading_of text) ≡ Err line) × NothingMade w told x
NotMade learners text Memory w told x = NothingMade w told x ⊎ MakesSome learners text w told x
NotMade learners text _ w told x = ⊥
