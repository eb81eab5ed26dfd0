-- What one call is answered, and what is told of it.
use Rattle.std.specs.Prelude.{◌≡◌, ℕ, List, [], ◌∷◌, Option, Some, None}
use Rattle.hurd_laws.specs.Step.{reply_of}
use Rattle.hurd_lessons.specs.Told.{Lesson}
use Rattle.hurd_lists.specs.Lists.{Listed}
use Rattle.hurd_machine.specs.Calls.{Reply}
use Rattle.hurd_machine.specs.World.{World}
use Rattle.hurd_calls.specs.Making.{after_call}
use Rattle.hurd_sight.specs.Reach.{among}
use Rattle.hurd_sitting.specs.Sittings.{Adds}
use Rattle.hurd_teaching.specs.declared.learners.Learners.{Learners}

-- what those who are told what they learn are told of a call that was made in world w: nothing of a call of their own, else what they learn by it
abbrev pub LearnedBy : Option Learners → Listed → World → List ℕ → Type 0
LearnedBy None c w text = text ≡ []
LearnedBy (Some learners) c w text = Lesson learners.tasks.items learners.who.items (among learners.tasks.items c.task.0) w (after_call c w) text

-- a call was made in world w: this is its reply, this was told of it, and world x is after it
pub record Replies (learners : Option Learners) (c : Listed) (w : World) (r : Reply) (text : List ℕ) (x : World) : Type 0 where
  pub reply : r ≡ reply_of w c.task.0 c.call
  pub told : LearnedBy learners c w text
  pub leaves : x ≡ after_call c w

-- the same, and what the call tells is after what was told before
pub record Answers (learners : Option Learners) (c : Listed) (w : World) (r : Reply) (before told : List ℕ) (x : World) : Type 0 where
  pub reply : r ≡ reply_of w c.task.0 c.call
  pub adds : Adds learners (c ∷ []) w before told
  pub leaves : x ≡ after_call c w
