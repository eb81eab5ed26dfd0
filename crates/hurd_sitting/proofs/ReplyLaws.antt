-- What is told of one call.
use Rattle.std.proofs.Common.{◌≡◌, ◌∙◌, ℕ, Bool, false, not, List, [], ◌∷◌, ◌++◌, Option, Some, None, ap, append-nil, if◌then◌else◌, refl, subst, sym}
use Rattle.std.specs.Option.{is_some, option_map}
use Rattle.hurd_laws.specs.Step.{reply_of}
use Rattle.hurd_lists.specs.Replies.{answered}
use Rattle.hurd_machine.specs.Calls.{Reply}
use Rattle.hurd_words.specs.Answers.{plain}
use Rattle.hurd_words.specs.Turns.{paragraph}
use Rattle.hurd_teaching.specs.Learners.{is_quiet}
use Rattle.hurd_lists.specs.Lists.{Listed}
use Rattle.hurd_machine.specs.World.{World}
use Rattle.hurd_sight.specs.Reach.{among}
use Rattle.hurd_views.specs.declared.view.View.{View}
use Rattle.hurd_calls.specs.Making.{after_call, answer_to, parts_of}
use Rattle.hurd_lessons.specs.Told.{Lesson}
use Rattle.hurd_teaching.specs.Telling.{SaysOf}
use Rattle.hurd_teaching.specs.Watched.{Sees}
use Rattle.hurd_teaching.specs.declared.learners.Learners.{Learners}
use Rattle.hurd_teaching.proofs.StepLaws.{lesson}
use Rattle.hurd_sitting.specs.Replies.{LearnedBy}
use Rattle.hurd_sitting.specs.Sittings.{Tells, at_once}
use Rattle.hurd_sitting.proofs.TellLaws.{part_tells, quiet_anywhere}

-- what was looked at before a call and after it tells what these learn by it
pub learned_by : (l : Learners) (c : Listed) (w x : World) (quiet : Bool) (before after : Option View) (said : List ℕ) → quiet ≡ among l.tasks.items c.task.0
    → (quiet ≡ false → Sees l.tasks.items w before) → x ≡ after_call c w → SaysOf l.tasks.items l.who.items quiet x before after said → LearnedBy (Some l) c w said
learned_by l c w x quiet before after said is sees made says =
    let learned : Lesson l.tasks.items l.who.items quiet w x said = lesson l.tasks.items (at_once l) w x quiet before after said sees says in
    subst (λ (b : Bool). Lesson l.tasks.items l.who.items b w (after_call c w) said) is (subst (λ (y : World). Lesson l.tasks.items l.who.items quiet w y said) made learned)

-- a call tells its paragraph, with what these learn of it
reply_tells : (l : Learners) (c : Listed) (w : World) (r : Reply) (said text : List ℕ) → r ≡ reply_of w c.task.0 c.call → LearnedBy (Some l) c w said
    → text ≡ paragraph (answered c.line r) (said ++ []) → Tells (Some l) (c ∷ []) w text
unfolding parts_of
reply_tells l c w r said text is learned prints =
    let same : among l.tasks.items c.task.0 ≡ is_quiet l.tasks.items 0 0 c.task.0 = sym (quiet_anywhere l.tasks.items 0 c.task.0) in (
      record { counts = not (is_quiet l.tasks.items 0 0 c.task.0); text = said; shown = [] } ∷ [],
      (said, [], [], refl, subst (λ (b : Bool). Lesson l.tasks.items l.who.items b w (after_call c w) said) same learned, refl, refl),
      prints ∙ (ap (λ (z : Reply). paragraph (answered c.line z) (said ++ [])) is ∙ sym (append-nil (paragraph (answer_to c w) (said ++ [])))),
    )

-- what is told of a call by its reply, and by what is learned of it
pub replied_tells : (who : Option Learners) (c : Listed) (w : World) (r : Reply) (said text : List ℕ) → r ≡ reply_of w c.task.0 c.call → LearnedBy who c w said
    → text ≡ (if is_some who then paragraph (answered c.line r) (said ++ []) else plain (answered c.line r)) → Tells who (c ∷ []) w text
replied_tells None c w r said text is learned prints = part_tells c w text (prints ∙ ap (λ (z : Reply). plain (answered c.line z)) is)
replied_tells (Some l) c w r said text is learned prints = reply_tells l c w r said text is learned prints

-- whether there is something in a box
pub still_some : {A B : Type 0} (f : A → B) (o : Option A) → is_some o ≡ is_some (option_map f o)
still_some f None = refl
still_some f (Some a) = refl
