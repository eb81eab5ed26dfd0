-- What tasks saw when they were last looked at, and what they learn since.
use Rattle.std.specs.Prelude.{◌≡◌, ℕ, Bool, false, not, List, [], Option, Some, None, refl}
use Rattle.std.specs.List.{list_any}
use Rattle.std.specs.Coded.{Coded, code_by, coded_option}
use Rattle.hurd_creds.specs.declared.name.TaskId.{TaskId}
use Rattle.hurd_machine.specs.World.{World}
use Rattle.hurd_sight.specs.declared.parts.SeenPart.{SeenPart}
use Rattle.hurd_views.specs.Views.{Views, tells_in}
use Rattle.hurd_views.specs.declared.view.View.{View}
use Rattle.hurd_views.specs.contracts.view.View as view
use Rattle.hurd_lessons.specs.Lessons.{Lessons}

-- what tasks saw when they were last looked at, if nothing came since that they did themselves
pub record Watched : Type 0 where
  pub seen : Option View

abbrev pub coded_watched : Coded Watched
coded_watched = code_by (Option View) (coded_option view.the_row.coded) (λ w. w.seen) (λ o. record { seen = o }) (λ _. refl)

-- it is known which parts were touched, and none of them was seen when there was a look
abbrev pub misses : Option (List SeenPart) → Option View → Bool
misses (Some parts) (Some v) = not (list_any (tells_in v) parts)
misses _ _ = false

-- what is seen is this world's
abbrev pub Sees : List TaskId → World → Option View → Type 0
Sees tasks w seen = (v : View) × (seen ≡ Some v) × Views tasks w v

-- what is seen is this world's, unless there was a look before
abbrev pub SeesOr : List TaskId → World → Option View → Option View → Type 0
SeesOr tasks w None seen = Sees tasks w seen
SeesOr tasks w (Some v) seen = seen ≡ Some v

-- what is learned since there was a look, if there was one
unfoldable pub LearnedSince : List ℕ → Option View → View → List ℕ → Type 0
LearnedSince who None b text = text ≡ []
LearnedSince who (Some a) b text = Lessons who a b text

-- what is seen now, and what is learned since there was a look
pub record Learns (tasks : List TaskId) (who : List ℕ) (w : World) (before after : Option View) (text : List ℕ) : Type 0 where
  pub view : View
  pub kept : after ≡ Some view
  pub sees : Views tasks w view
  pub learned : LearnedSince who before view text

-- what was seen, if there was a look, was this world's
abbrev pub SeenOf : List TaskId → World → Option View → Type 0
SeenOf tasks w None = Unit {0}
SeenOf tasks w (Some v) = Views tasks w v
