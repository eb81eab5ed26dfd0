-- What is printed, for tasks that are told what they learn, of parts that are told one after another.
use Rattle.std.specs.Prelude.{◌≡◌, ◌⊎◌, ℕ, ◌+◌, Bool, true, false, List, [], ◌∷◌, ◌++◌, Option, if◌then◌else◌}
use Rattle.std.specs.Io.KnownBytes.{Appends}
use Rattle.hurd_creds.specs.declared.name.TaskId.{TaskId}
use Rattle.hurd_machine.specs.World.{World}
use Rattle.hurd_dialogue.specs.Parts.{Part, Way}
use Rattle.hurd_words.specs.Turns.{paragraph}
use Rattle.hurd_views.specs.declared.view.View.{View}
use Rattle.hurd_lessons.specs.Told.{Lesson, Said, counted, last_line, tally_from}
use Rattle.hurd_lessons.specs.declared.tally.Tally.{Tally}
use Rattle.hurd_terminal.specs.Faults.{AppendsFront, IsFront, IsPrintFault}
use Rattle.hurd_terminal.specs.declared.fault.Fault.{Fault}
use Rattle.hurd_terminal.specs.declared.print.Output.{Output}
use Rattle.hurd_teaching.specs.Learners.{Speech, is_quiet, speech}
use Rattle.hurd_teaching.specs.Lessons.{LessonsOf, told_text}
use Rattle.hurd_teaching.specs.Limits.{all_shortened, shortened}
use Rattle.hurd_teaching.specs.Looks.{is_due}
use Rattle.hurd_teaching.specs.Telling.{Shows}
use Rattle.hurd_teaching.specs.Watched.{SeenOf}
use Rattle.hurd_teaching.specs.declared.learners.Learners.{Learners}

-- the paragraph of a part, with what is said and shown after it, of which at most so many bytes are printed each
abbrev pub part_text : Option ℕ → Speech → Part → List ℕ → List ℕ → List ℕ
part_text most who p said shown = paragraph p.answer (shortened most who.learns said ++ shortened most who.sees shown)

-- a part is told where so many were told: its paragraph was printed with what is said and shown after it, and that was counted
pub record IsTold (most : Option ℕ) (tasks : List TaskId) (who : Speech) (made : ℕ) (w : World) (p : Part) (tally : Tally) (before : Option (List ℕ))
    (kept : Option View) (count : Tally) (after : Option (List ℕ)) : Type 0 where
  pub said : List ℕ
  pub shown : List ℕ
  pub seen : SeenOf tasks p.world kept
  pub lesson : Lesson tasks who.learns (is_quiet tasks who.from made p.task) w p.world said
  pub shows : Shows tasks who.sees (is_due who.looks (made + 1)) p.world shown
  pub appends : Appends before after (part_text most who p said shown)
  pub counts : count ≡ (if is_quiet tasks who.from made p.task then tally else counted tally said)

-- what comes of a step: a part is told, and the rest is left; or there was none
unfoldable pub StepsTo : Option ℕ → List TaskId → Speech → Way → Tally → Option (List ℕ) → Bool → Way → Option View → Tally → Option (List ℕ) → Type 0
StepsTo most tasks who old tally before true new kept count after =
    (p : Part) × (old.left ≡ p ∷ new.left) × (new.world ≡ p.world) × (new.told ≡ old.told + 1) × IsTold most tasks who old.told old.world p tally before kept count after
StepsTo most tasks who old tally before false new kept count after = (old.left ≡ []) × (count ≡ tally) × (after ≡ before)

-- of a step that failed nothing was printed, or a front of a part's paragraph
abbrev pub StopsAt : Option ℕ → List TaskId → Speech → Way → Option (List ℕ) → Option (List ℕ) → Type 0
StopsAt most tasks who old before after =
    (after ≡ before) ⊎ ((p : Part) × (rest : List Part) × (old.left ≡ p ∷ rest)
    × (said shown : List ℕ) × Lesson tasks who.learns (is_quiet tasks who.from old.told p.task) old.world p.world said
    × Shows tasks who.sees (is_due who.looks (old.told + 1)) p.world shown × AppendsFront before after (part_text most who p said shown))

-- all parts were told and printed, each with what is said after it, and that was counted
pub record ToldAll (most : Option ℕ) (tasks : List TaskId) (who : Speech) (made : ℕ) (w : World) (parts : List Part) (tally : Tally) (before : Option (List ℕ)) (count : Tally) (after : Option (List ℕ)) : Type 0 where
  pub said : List Said
  pub lessons : LessonsOf tasks who made w parts said
  pub appends : Appends before after (told_text parts (all_shortened most who said))
  pub counts : count ≡ tally_from tally said

-- some first parts were told, and a front of their paragraphs was printed
pub record ToldSome (most : Option ℕ) (tasks : List TaskId) (who : Speech) (made : ℕ) (w : World) (parts : List Part) (before after : Option (List ℕ)) : Type 0 where
  pub first : List Part
  pub left : List Part
  pub split : parts ≡ first ++ left
  pub said : List Said
  pub lessons : LessonsOf tasks who made w first said
  pub front : AppendsFront before after (told_text first (all_shortened most who said))

-- the last line: how many of the things that others did taught something
abbrev pub last_of : Learners → List ℕ → List Said → List ℕ
last_of learners thing said = last_line learners.names.items thing (tally_from (record { others = 0; taught = 0 }) said)

-- all that is printed: each part and what is said after it, and the last line
pub record Whole (most : Option ℕ) (learners : Learners) (thing : List ℕ) (w : World) (parts : List Part) (text : List ℕ) : Type 0 where
  pub said : List Said
  pub lessons : LessonsOf learners.tasks.items (speech learners) 0 w parts said
  pub is : text ≡ told_text parts (all_shortened most (speech learners) said) ++ last_of learners thing said

-- a front of what is printed of some first parts
pub record FrontOfSome (most : Option ℕ) (learners : Learners) (w : World) (parts : List Part) (text : List ℕ) : Type 0 where
  pub first : List Part
  pub left : List Part
  pub split : parts ≡ first ++ left
  pub said : List Said
  pub lessons : LessonsOf learners.tasks.items (speech learners) 0 w first said
  pub front : IsFront text (told_text first (all_shortened most (speech learners) said))

-- or of all that is printed
unfoldable pub Front : Option ℕ → Learners → List ℕ → World → List Part → List ℕ → Type 0
Front most learners thing w parts text = FrontOfSome most learners w parts text ⊎ ((all : List ℕ) × Whole most learners thing w parts all × IsFront text all)

-- all was printed
pub record Shown (most : Option ℕ) (learners : Learners) (thing : List ℕ) (w : World) (parts : List Part) (before after : Option (List ℕ)) : Type 0 where
  pub text : List ℕ
  pub whole : Whole most learners thing w parts text
  pub appends : Appends before after text

-- a front of it was
abbrev pub ShowsFront : Option ℕ → Learners → List ℕ → World → List Part → Option (List ℕ) → Option (List ℕ) → Type 0
ShowsFront most learners thing w parts before after = (text : List ℕ) × Front most learners thing w parts text × Appends before after text

-- up to a fault
abbrev pub NotShown : {W : Type 0} → Option ℕ → Learners → List ℕ → World → List Part → Output W → Option (List ℕ) → Fault → Option (List ℕ) → Type 0
NotShown most learners thing w parts output before fault after = IsPrintFault output fault × ShowsFront most learners thing w parts before after
