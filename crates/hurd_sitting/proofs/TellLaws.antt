-- What calls tell those who are told what they learn, in several texts and in one.
use Rattle.std.proofs.Common.{◌≡◌, ◌∙◌, ◌||◌, ◌+◌, ℕ, Bool, not, List, [], ◌∷◌, ◌++◌, Option, Some, None, ap, append_assoc, arith, refl, subst, sym}
use Rattle.std.proofs.lemmas.Bool.{le-ltb}
use Rattle.hurd_creds.specs.declared.name.TaskId.{TaskId}
use Rattle.hurd_lists.specs.Lists.{Listed}
use Rattle.hurd_machine.specs.World.{World}
use Rattle.hurd_sight.specs.Reach.{among}
use Rattle.hurd_dialogue.specs.Parts.{Part, world_behind}
use Rattle.hurd_calls.specs.Making.{answer_to, parts_of}
use Rattle.hurd_words.specs.Answers.{plain}
use Rattle.hurd_words.specs.Turns.{paragraph}
use Rattle.hurd_lessons.specs.Told.{Lesson, Said}
use Rattle.hurd_teaching.specs.Learners.{is_quiet}
use Rattle.hurd_teaching.specs.Lessons.{LessonsOf, told_text}
use Rattle.hurd_teaching.specs.declared.learners.Learners.{Learners}
use Rattle.hurd_sitting.specs.Sittings.{Tells, at_once, behind, told_by}
use Rattle.hurd_sitting.proofs.PartLaws.{as_one, none_told, one_told}

-- lessons have begun, however many calls were made
pub quiet_anywhere : (tasks : List TaskId) (n task : ℕ) → is_quiet tasks 0 n task ≡ among tasks task
quiet_anywhere tasks n task = ap (λ (b : Bool). b || among tasks task) (le-ltb n 0 (omega arith))

module _ (l : Learners) where
  -- lessons are the same, however many calls were made before them
  anywhere : (m n : ℕ) (w : World) (ps : List Part) (said : List Said) → LessonsOf l.tasks.items (at_once l) m w ps said → LessonsOf l.tasks.items (at_once l) n w ps said
  anywhere m n w [] said none = none
  anywhere m n w (p ∷ ps) said (text, shown, more, is, lesson, shows, rest) =
      let same : is_quiet l.tasks.items 0 m p.task ≡ is_quiet l.tasks.items 0 n p.task = quiet_anywhere l.tasks.items m p.task ∙ sym (quiet_anywhere l.tasks.items n p.task) in (
        text,
        shown,
        more,
        is ∙ ap (λ (b : Bool). record { counts = not b; text = text; shown = shown } ∷ more) same,
        subst (λ (b : Bool). Lesson l.tasks.items l.who.items b w p.world text) same lesson,
        shows,
        anywhere (m + 1) (n + 1) p.world ps more rest,
      )

  -- of some parts, and then of others
  abbrev Apart : ℕ → World → List Part → List Part → List Said → List Said → Type 0
  Apart n w ps qs xs ys = LessonsOf l.tasks.items (at_once l) n w (ps ++ qs) (xs ++ ys) × (told_text (ps ++ qs) (xs ++ ys) ≡ told_text ps xs ++ told_text qs ys)

  lessons_apart : (n : ℕ) (w : World) (ps qs : List Part) (xs ys : List Said) → LessonsOf l.tasks.items (at_once l) n w ps xs
      → LessonsOf l.tasks.items (at_once l) 0 (world_behind w ps) qs ys → Apart n w ps qs xs ys
  unfolding world_behind
  lessons_apart n w [] qs xs ys none later = rw none (anywhere 0 n w qs ys later, refl)
  lessons_apart n w (p ∷ ps) qs xs ys (text, shown, more, is, lesson, shows, rest) later =
      let both = lessons_apart (n + 1) p.world ps qs more ys rest later in
      let here = paragraph p.answer (text ++ shown) in
      rw is (
        (text, shown, more ++ ys, refl, lesson, shows, both.0),
        ap (λ (bs : List ℕ). here ++ bs) both.1 ∙ sym (append_assoc here (told_text ps more) (told_text qs ys)),
      )

-- what calls tell, and then others in the world after them, all of them tell as one list
pub tells_one : (who : Option Learners) (first then : List Listed) (w : World) (text more : List ℕ) → Tells who first w text → Tells who then (behind first w) more
    → Tells who (first ++ then) w (text ++ more)
tells_one None first then w text more tells next =
    ap (λ (bs : List ℕ). bs ++ more) tells ∙ (ap (λ (bs : List ℕ). told_by first w ++ bs) next ∙ sym (as_one first then w).tells)
tells_one (Some l) first then w text more (xs, lessons, is) (ys, later, next) =
    let both = lessons_apart l 0 w (parts_of first w) (parts_of then (behind first w)) xs ys lessons later in (
      xs ++ ys,
      subst (λ (ps : List Part). LessonsOf l.tasks.items (at_once l) 0 w ps (xs ++ ys)) (sym (as_one first then w).parts) both.0,
      ap (λ (bs : List ℕ). bs ++ more) is ∙ (ap (λ (bs : List ℕ). told_text (parts_of first w) xs ++ bs) next
          ∙ (sym both.1 ∙ ap (λ (ps : List Part). told_text ps (xs ++ ys)) (sym (as_one first then w).parts))),
    )

-- no call tells anything
pub none_tells : (who : Option Learners) (w : World) → Tells who [] w []
unfolding parts_of
none_tells None w = sym (none_told w)
none_tells (Some l) w = ([], refl, refl)

-- one call tells its part
pub part_tells : (c : Listed) (w : World) (text : List ℕ) → text ≡ plain (answer_to c w) → Tells None (c ∷ []) w text
part_tells c w text is = is ∙ sym (one_told c w)
