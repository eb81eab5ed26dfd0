-- When some tasks do something while a text is told, and where two lists first differ.
use Rattle.std.specs.Prelude.{◌≡◌, ◌≢◌, ◌⊎◌, ℕ, ◌+◌, Bool, List, [], ◌∷◌, Option, Some, None, if◌then◌else◌}
use Rattle.hurd_machine.specs.World.{World}
use Rattle.hurd_dialogue.specs.Parts.{Part, Way}
use Rattle.hurd_words.specs.declared.answers.Answer.{Answer}

-- a moment: how many parts were told before it, the world then, and what is answered to what is done; nothing at the end
pub record Moment : Type 0 where
  pub made : ℕ
  pub world : World
  pub answer : Option Answer

-- the moments at which tasks of S do something, of parts that are told one after another from a world on where so many were told; and at last the end, at
-- which nothing is answered
unfoldable pub moments : (ℕ → Bool) → ℕ → World → List Part → List Moment
moments S made w [] = record { made = made; world = w; answer = None } ∷ []
moments S made w (p ∷ ps) =
    if S p.task then record { made = made; world = w; answer = Some p.answer } ∷ moments S (made + 1) p.world ps
    else moments S (made + 1) p.world ps

-- those that a text on its way has still before it
abbrev pub moments_left : (ℕ → Bool) → Way → List Moment
moments_left S way = moments S way.told way.world way.left

-- the first two things of two lists, place by place, that are other; none where all are the same, as far as both lists go
unfoldable pub FirstOther : {X : Type 0} → (X → X → Type 0) → (X → X → Type 0) → List X → List X → Option (X × X) → Type 0
FirstOther Same Other [] ys found = found ≡ None
FirstOther Same Other (x ∷ xs) [] found = found ≡ None
FirstOther Same Other (x ∷ xs) (y ∷ ys) found = (Same x y × FirstOther Same Other xs ys found) ⊎ (Other x y × (found ≡ Some (x, y)))

-- two moments at which the same is answered, and two at which something else is
abbrev pub TellSame : Moment → Moment → Type 0
TellSame m n = m.answer ≡ n.answer

abbrev pub TellOther : Moment → Moment → Type 0
TellOther m n = m.answer ≢ n.answer
