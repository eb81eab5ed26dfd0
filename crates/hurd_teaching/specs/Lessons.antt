-- What some tasks learn of what others do, part by part.
use Rattle.std.specs.Prelude.{◌≡◌, ℕ, ◌+◌, not, List, [], ◌∷◌, ◌++◌}
use Rattle.hurd_creds.specs.declared.name.TaskId.{TaskId}
use Rattle.hurd_machine.specs.World.{World}
use Rattle.hurd_dialogue.specs.Parts.{Part, answers}
use Rattle.hurd_lessons.specs.Told.{Lesson, Said, printed}
use Rattle.hurd_teaching.specs.Learners.{Speech, is_quiet, see_of, verb_of}
use Rattle.hurd_teaching.specs.Looks.{is_due}
use Rattle.hurd_teaching.specs.Reading.{AreSentences}
use Rattle.hurd_teaching.specs.Telling.{Shows}

-- what is said after each of these parts, told one after another from a world on where so many were told. Nothing is said of what one of these tasks
-- did, or before lessons begin. Of anything else it is said what these tasks learn between the world before and the world after it. What they see
-- then is shown, where that is asked
abbrev pub LessonsOf : List TaskId → Speech → ℕ → World → List Part → List Said → Type 0
LessonsOf tasks who made w [] said = said ≡ []
LessonsOf tasks who made w (p ∷ ps) said =
    let quiet = is_quiet tasks who.from made p.task in
    (text shown : List ℕ) × (more : List Said) × (said ≡ record { counts = not quiet; text = text; shown = shown } ∷ more)
    × Lesson tasks who.learns quiet w p.world text × Shows tasks who.sees (is_due who.looks (made + 1)) p.world shown
    × LessonsOf tasks who (made + 1) p.world ps more

-- a paragraph for each part, with what is said and shown after it
abbrev pub told_text : List Part → List Said → List ℕ
told_text parts said = printed (answers parts) said

-- what is said and shown after parts is sentences, so that outputs can be read back
abbrev pub LessonsAreSentences : Type 0
LessonsAreSentences =
    (tasks : List TaskId) (names : List ℕ) (who : Speech) (made : ℕ) (w : World) (ps : List Part) (said : List Said)
    → who.learns ≡ names ++ verb_of tasks → who.sees ≡ names ++ see_of tasks → LessonsOf tasks who made w ps said → AreSentences tasks names said
