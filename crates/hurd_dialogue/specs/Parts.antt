-- What a text tells, part by part, while what it says is done in a world of its own.
use Rattle.std.specs.Prelude.{◌≡◌, ℕ, ◌+◌, List, [], ◌∷◌, Option, Some, None, map}
use Rattle.std.specs.List.{concat}
use Rattle.hurd_machine.specs.World.{World}
use Rattle.hurd_touches.specs.declared.noted.Noted.{Noted}
use Rattle.hurd_words.specs.Answers.{plain}
use Rattle.hurd_words.specs.declared.answers.Answer.{Answer}
use Rattle.hurd_world.specs.Noting.{State}

-- a part that is told: of what which task did, what it was answered, and the world after it
pub record Part : Type 0 where
  pub task : ℕ
  pub answer : Answer
  pub world : World

-- the answers of parts
abbrev pub answers : List Part → List Answer
answers parts = map (λ (p : Part). p.answer) parts

-- all that is told, as `hurd run` prints it
abbrev pub joined : List Part → List ℕ
joined parts = concat (map plain (answers parts))

-- the task of the next part
abbrev pub next_task : List Part → Option ℕ
next_task [] = None
next_task (part ∷ rest) = Some part.task

-- the world after parts that are told one after another, from a world on
unfoldable pub world_behind : World → List Part → World
world_behind w [] = w
world_behind w (part ∷ rest) = world_behind part.world rest

-- a text on its way: what it has still to tell, the world that was left so far, and how many parts were told; by how many lines that say
-- something its parts are preceded, and one; the names of its tasks, if these have names; and the task of a name, if it is in it
pub record Way : Type 0 where
  pub left : List Part
  pub world : World
  pub told : ℕ
  pub heading : ℕ
  pub names : List (List ℕ)
  pub finds : List ℕ → Option ℕ

-- its world, with the parts that are noted
abbrev pub standing : Way → Noted → State
standing way noted = record { world = way.world; noted = noted }

-- the next part was told, and this is its answer; or there is none, and nothing changed
abbrev pub Goes : Way → Option Answer → Way → Type 0
Goes old None new = (old.left ≡ []) × (new ≡ old)
Goes old (Some answer) new = (task : ℕ) × (old.left ≡ record { task = task; answer = answer; world = new.world } ∷ new.left) × (new.told ≡ old.told + 1)
