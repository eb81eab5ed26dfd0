-- What is said of two moments at which some tasks see or are told something else.
use Rattle.std.specs.Prelude.{◌≡◌, ℕ, List, ◌++◌, Option, Some, None, codes}
use Rattle.hurd_creds.specs.declared.name.TaskId.{TaskId}
use Rattle.hurd_machine.specs.World.{World}
use Rattle.hurd_words.specs.Marks.{marked}
use Rattle.hurd_words.specs.declared.answers.Answer.{Answer}
use Rattle.hurd_sight.specs.Reach.{among}
use Rattle.hurd_views.specs.Views.{Views}
use Rattle.hurd_views.specs.declared.view.View.{View}
use Rattle.hurd_lessons.specs.Told.{ToldApart}
use Rattle.hurd_looks.specs.Renamed.{AreAlike}
use Rattle.hurd_pairs.specs.Moments.{FirstOther, Moment, TellOther, TellSame}
use Rattle.hurd_pairs.specs.declared.difference.Compared.{Compared}
use Rattle.hurd_pairs.specs.declared.difference.Difference.{Difference}

-- these tasks' views of two worlds are the same except for names of what others made, or they aren't
abbrev pub SeeAlike : List TaskId → World → World → Type 0
SeeAlike tasks v w = (a b : View) × Views tasks v a × Views tasks w b × AreAlike (among tasks) a b

abbrev pub SeeOther : List TaskId → World → World → Type 0
SeeOther tasks v w = (a b : View) × Views tasks v a × Views tasks w b × (AreAlike (among tasks) a b → ⊥)

-- of two moments it is said what these tasks see otherwise at the one than at the other
pub record SaysSeen (tasks : List TaskId) (sees : List ℕ) (m n : Moment) (d : Difference) : Type 0 where
  pub one : d.one ≡ m.made
  pub two : d.two ≡ n.made
  pub said : ToldApart tasks sees m.world n.world d.said

-- an answer with its marks, or that there is none
abbrev pub marked_or_none : Option Answer → List ℕ
marked_or_none None = codes "(nothing)\n"
marked_or_none (Some answer) = marked answer

-- two answers, one below the other
abbrev pub both_answers : Option Answer → Option Answer → List ℕ
both_answers s t = codes "the first: " ++ (marked_or_none s ++ (codes "the second: " ++ marked_or_none t))

-- or what is answered at each
pub record SaysTold (m n : Moment) (d : Difference) : Type 0 where
  pub one : d.one ≡ m.made
  pub two : d.two ≡ n.made
  pub said : d.said ≡ both_answers m.answer n.answer

-- where something was found, that is said of it
abbrev pub IsSaid : (Moment → Moment → Difference → Type 0) → Option (Moment × Moment) → Option Difference → Type 0
IsSaid Says None None = Unit {0}
IsSaid Says (Some (m, n)) (Some d) = Says m n d
IsSaid Says _ _ = ⊥

-- of the first two moments that are other, that is said
abbrev pub FirstSaid : (Moment → Moment → Type 0) → (Moment → Moment → Type 0) → (Moment → Moment → Difference → Type 0) → List Moment → List Moment → Option Difference → Type 0
FirstSaid Same Other Says ms ns d = (found : Option (Moment × Moment)) × FirstOther Same Other ms ns found × IsSaid Says found d

-- two texts are compared by their moments: where these tasks first see something else, and where they are first told something else
pub record Compares (Alike Other : World → World → Type 0) (tasks : List TaskId) (sees : List ℕ) (ms ns : List Moment) (c : Compared) : Type 0 where
  pub seen : FirstSaid (λ m n. Alike m.world n.world) (λ m n. Other m.world n.world) (SaysSeen tasks sees) ms ns c.seen
  pub told : FirstSaid TellSame TellOther SaysTold ms ns c.told
