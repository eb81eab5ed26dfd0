-- What is said after what was done, and what is shown then, is sentences; and what counts.
use Rattle.std.proofs.Common.{◌≡◌, refl, sym, subst, ℕ, ◌+◌, List, [], ◌∷◌, ◌++◌, Bool, not, true, false}
use Rattle.std.specs.Prelude.{if◌then◌else◌}
use Rattle.hurd_creds.specs.declared.name.TaskId.{TaskId}
use Rattle.hurd_machine.specs.World.{World}
use Rattle.hurd_words.specs.Sentences.{InSentences}
use Rattle.hurd_words.proofs.ClauseLaws.{no_sentences}
use Rattle.hurd_lessons.specs.Told.{Lesson}
use Rattle.hurd_lessons.proofs.InSentences.{seen_in_sentences, taught_in_sentences}
use Rattle.hurd_teaching.specs.Learners.{is_quiet, see_of, verb_of}
use Rattle.hurd_teaching.specs.Lessons.{LessonsAreSentences}
use Rattle.hurd_teaching.specs.Looks.{is_due}
use Rattle.hurd_teaching.specs.Reading.{AreSentences}
use Rattle.hurd_teaching.specs.Telling.{Shows}

pub lesson_said : (tasks : List TaskId) (learns said_of : List ℕ) (quiet : Bool) (w x : World) (text : List ℕ) → learns ≡ said_of → Lesson tasks learns quiet w x text → InSentences said_of text
lesson_said tasks learns said_of true w x text same lesson = subst (InSentences said_of) (sym (lesson.none refl)) (no_sentences said_of)
lesson_said tasks learns said_of false w x text same lesson =
    let it = lesson.some refl in subst (λ (who : List ℕ). InSentences who text) same (taught_in_sentences learns it.0 it.1 text it.4)

pub shows_said : (tasks : List TaskId) (sees said_of : List ℕ) (asked : Bool) (x : World) (shown : List ℕ) → sees ≡ said_of → Shows tasks sees asked x shown → InSentences said_of shown
shows_said tasks sees said_of true x shown same it = subst (λ (who : List ℕ). InSentences who shown) same (subst (InSentences sees) (sym it.2) (seen_in_sentences sees it.0))
shows_said tasks sees said_of false x shown same it = subst (InSentences said_of) (sym it) (no_sentences said_of)

-- what counts is what is not quiet
pub counts_loud : {X : Type 0} (b : Bool) (x y : X) → (if b then x else y) ≡ (if not b then y else x)
counts_loud true x y = refl
counts_loud false x y = refl

-- and so after parts
pub lessons_are_sentences : LessonsAreSentences
lessons_are_sentences tasks names who made w [] said learns sees none = subst (AreSentences tasks names) (sym none) tt
lessons_are_sentences tasks names who made w (p ∷ ps) said learns sees (text, shown, more, is, lesson, shows, rest) =
    subst (AreSentences tasks names) (sym is) (
      lesson_said tasks who.learns (names ++ verb_of tasks) (is_quiet tasks who.from made p.task) w p.world text learns lesson,
      shows_said tasks who.sees (names ++ see_of tasks) (is_due who.looks (made + 1)) p.world shown sees shows,
      lessons_are_sentences tasks names who (made + 1) p.world ps more learns sees rest,
    )
