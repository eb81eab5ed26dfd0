-- What is kept of what is seen.
use Rattle.std.proofs.Common.{◌≡◌, ℕ, Bool, true, List, [], Option, Some, None, Result, not, ap, sym, subst, ◌∙◌, true≢false}
use Rattle.std.specs.Prelude.{IfOk, is_some}
use Rattle.std.specs.Option.{option_map}
use Rattle.hurd_creds.specs.declared.name.TaskId.{TaskId}
use Rattle.hurd_machine.specs.World.{World}
use Rattle.hurd_views.specs.Views.{Views}
use Rattle.hurd_views.specs.declared.view.View.{View}
use Rattle.hurd_lessons.specs.Lessons.{Lessons}
use Rattle.hurd_teaching.specs.Watched.{LearnedSince, SeesOr}

-- a first look, where what was seen is kept in boxes
pub sees_first : {B : Type 0} (f : B → View) (o : Option B) (tasks : List TaskId) (w : World) (before now : Option View) (v : View) (q : Bool) → option_map f o ≡ before → is_some o ≡ not q → q ≡ true
    → now ≡ Some v → Views tasks w v → SeesOr tasks w before now
sees_first f None tasks w before now v q same none is kept views = subst (λ (b : Option View). SeesOr tasks w b now) same (v, kept, views)
sees_first f (Some u) tasks w before now v q same some is kept views = absurd (true≢false (some ∙ ap not is))

-- what is learned since a look, and since none

pub learned_some : {E : Type 0} (who : List ℕ) (o : Option View) (v b : View) (r : Result (List ℕ) E) → o ≡ Some v → IfOk r (λ text. Lessons who v b text)
    → IfOk r (λ text. LearnedSince who o b text)
unfolding LearnedSince
learned_some who o v b r is lessons = subst (λ (x : Option View). IfOk r (λ text. LearnedSince who x b text)) (sym is) lessons

pub learned_none : (who : List ℕ) (o : Option View) (b : View) (text : List ℕ) → o ≡ None → text ≡ [] → LearnedSince who o b text
unfolding LearnedSince
learned_none who o b text is none = subst (λ (x : Option View). LearnedSince who x b text) (sym is) none
