-- One step of comparing two texts: up to the next thing that some tasks do in each, and that.
use Rattle.std.specs.Prelude.{◌≡◌, ◌⊎◌, ℕ, Bool, true, false, List, [], ◌∷◌, Option, Some, None}
use Rattle.hurd_creds.specs.declared.name.TaskId.{TaskId}
use Rattle.hurd_machine.specs.World.{World}
use Rattle.hurd_sight.specs.Reach.{among}
use Rattle.hurd_dialogue.specs.Parts.{Part, Way}
use Rattle.hurd_words.specs.declared.answers.Answer.{Answer}
use Rattle.hurd_lessons.specs.Told.{ToldApart}
use Rattle.hurd_pairs.specs.Differences.{SaysSeen, SaysTold, SeeAlike, SeeOther}
use Rattle.hurd_pairs.specs.Moments.{Moment, TellOther, TellSame, moments_left}
use Rattle.hurd_pairs.specs.declared.difference.Compared.{Compared}
use Rattle.hurd_pairs.specs.declared.difference.Difference.{Difference}

-- the next part is of a task of S, or none is left
abbrev pub IsAtOwn : (ℕ → Bool) → Bool → List Part → Type 0
IsAtOwn S true left = (p : Part) × (rest : List Part) × (left ≡ p ∷ rest) × (S p.task ≡ true)
IsAtOwn S false left = left ≡ []

-- what these tasks see otherwise of the second world, if anything
abbrev pub IsSeenSo : List TaskId → List ℕ → World → World → Option (List ℕ) → Type 0
IsSeenSo tasks sees v w None = SeeAlike tasks v w
IsSeenSo tasks sees v w (Some said) = SeeOther tasks v w × ToldApart tasks sees v w said

-- what was found before is kept; else it is found whether two moments are the same or other, and what is said of them where they are other
abbrev pub KeepsOrFinds : (Moment → Moment → Type 0) → (Moment → Moment → Type 0) → (Moment → Moment → Difference → Type 0) → Moment → Moment → Option Difference → Option Difference → Type 0
KeepsOrFinds Same Other Says m n (Some d) new = new ≡ Some d
KeepsOrFinds Same Other Says m n None None = Same m n
KeepsOrFinds Same Other Says m n None (Some d) = Other m n × Says m n d

abbrev pub Looks : List TaskId → List ℕ → Moment → Moment → Option Difference → Option Difference → Type 0
Looks tasks sees m n old new = KeepsOrFinds (λ x y. SeeAlike tasks x.world y.world) (λ x y. SeeOther tasks x.world y.world) (SaysSeen tasks sees) m n old new

abbrev pub Hears : Moment → Moment → Option Difference → Option Difference → Type 0
Hears m n old new = KeepsOrFinds TellSame TellOther SaysTold m n old new

-- the same where so many parts were told before, whatever the worlds
abbrev pub HearsAt : ℕ → ℕ → Option Answer → Option Answer → Option Difference → Option Difference → Type 0
HearsAt one two s t old new =
    (v w : World) → Hears (record { made = one; world = v; answer = s }) (record { made = two; world = w; answer = t }) old new

-- the next moments of both were compared; what is left are those after them, or none of one of the two
pub record StepsTo (tasks : List TaskId) (sees : List ℕ) (one two : Way) (old : Compared) (more : Bool) (one_then two_then : Way) (new : Compared) : Type 0 where
  pub m : Moment
  pub n : Moment
  pub ms : List Moment
  pub ns : List Moment
  pub ones : moments_left (among tasks) one ≡ m ∷ ms
  pub twos : moments_left (among tasks) two ≡ n ∷ ns
  pub looks : Looks tasks sees m n old.seen new.seen
  pub hears : Hears m n old.told new.told
  pub goes : more ≡ true → (ms ≡ moments_left (among tasks) one_then) × (ns ≡ moments_left (among tasks) two_then)
  pub ends : more ≡ false → (ms ≡ []) ⊎ (ns ≡ [])
