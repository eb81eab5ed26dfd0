-- What is shown where that is asked for.
use Rattle.std.proofs.Common.{◌≡◌, ◌∙◌, Bool, true, false, ℕ, List, Result, Ok, Err}
use Rattle.std.specs.Prelude.{IfOk}
use Rattle.hurd_creds.specs.declared.name.TaskId.{TaskId}
use Rattle.hurd_machine.specs.World.{World}
use Rattle.hurd_views.specs.Views.{Views}
use Rattle.hurd_views.specs.declared.view.View.{View}
use Rattle.hurd_lessons.specs.Seen.{seen_text}
use Rattle.hurd_teaching.specs.Telling.{Shows}

pub view_shown : {E : Type 0} (tasks : List TaskId) (sees who : List ℕ) (asked : Bool) (w : World) (v u : View) (r : Result (List ℕ) E) → asked ≡ true → Views tasks w v → who ≡ sees → u ≡ v
    → IfOk r (λ text. text ≡ seen_text who u) → IfOk r (λ text. Shows tasks sees asked w text)
view_shown tasks sees who asked w v u (Err e) is views named viewed same = tt
view_shown tasks sees who true w v u (Ok text) is views named viewed same = (v, views, same ∙ (λ i. seen_text (named i) (viewed i)))
view_shown tasks sees who false w v u (Ok text) is views named viewed same = absurd (let no = is in cc)
