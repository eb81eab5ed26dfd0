-- What is said after what a task did, and what is shown after that.
use Rattle.std.specs.Prelude.{◌≡◌, ℕ, Bool, true, false, List, [], Option, None}
use Rattle.hurd_creds.specs.declared.name.TaskId.{TaskId}
use Rattle.hurd_machine.specs.World.{World}
use Rattle.hurd_views.specs.declared.view.View.{View}
use Rattle.hurd_views.specs.Views.{Views}
use Rattle.hurd_lessons.specs.Seen.{seen_text}
use Rattle.hurd_teaching.specs.Watched.{Learns}

-- what is said after what was done, and what is kept of what is seen: nothing where nothing is to be said, else what these tasks learn by it
abbrev pub SaysOf : List TaskId → List ℕ → Bool → World → Option View → Option View → List ℕ → Type 0
SaysOf tasks who true x before after text = (after ≡ None) × (text ≡ [])
SaysOf tasks who false x before after text = Learns tasks who x before after text

-- what is shown: all that these tasks see of the world, where that is asked for
abbrev pub Shows : List TaskId → List ℕ → Bool → World → List ℕ → Type 0
Shows tasks sees true x text = (v : View) × Views tasks x v × (text ≡ seen_text sees v)
Shows tasks sees false x text = text ≡ []
