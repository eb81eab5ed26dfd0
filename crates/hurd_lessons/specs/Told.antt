-- What is said after what each of several tasks does, and how that is printed.
use Rattle.std.specs.Prelude.{◌≡◌, ◌↔◌, ◌+◌, ◌==◌, ℕ, Bool, true, false, List, [], ◌∷◌, ◌++◌, if◌then◌else◌, length, nat_lt, codes, decimal}
use Rattle.hurd_creds.specs.declared.name.TaskId.{TaskId}
use Rattle.hurd_machine.specs.Sight.{SameView}
use Rattle.hurd_machine.specs.Sound.{Sound}
use Rattle.hurd_machine.specs.World.{World}
use Rattle.hurd_sight.specs.Reach.{among}
use Rattle.hurd_views.specs.Views.{Views}
use Rattle.hurd_views.specs.declared.view.View.{View}
use Rattle.hurd_words.specs.Sentences.{InSentences}
use Rattle.hurd_words.specs.Turns.{paragraph}
use Rattle.hurd_words.specs.declared.answers.Answer.{Answer}
use Rattle.hurd_lessons.specs.Beside.{Beside}
use Rattle.hurd_lessons.specs.Lessons.{Lessons}
use Rattle.hurd_lessons.specs.Seen.{seen_text}
use Rattle.hurd_lessons.specs.declared.tally.Tally.{Tally}

-- what these tasks learn by what was done between two worlds
abbrev pub Taught : List TaskId → List ℕ → World → World → List ℕ → Type 0
Taught tasks who w x text = (a b : View) × Views tasks w a × Views tasks x b × Lessons who a b text

-- what these tasks see otherwise in one world than in another, each of a script of its own
abbrev pub ToldApart : List TaskId → List ℕ → World → World → List ℕ → Type 0
ToldApart tasks who w x text = (a b : View) × Views tasks w a × Views tasks x b × Beside who a b text

-- what is said after what was done: nothing, where one of these tasks did it or nothing is to be said yet; else what they learn by it
pub record Lesson (tasks : List TaskId) (who : List ℕ) (quiet : Bool) (w x : World) (text : List ℕ) : Type 0 where
  pub none : quiet ≡ true → text ≡ []
  pub some : quiet ≡ false → Taught tasks who w x text

-- nothing is learned exactly where the view of these tasks is as it was
abbrev pub UntaughtWhereUnmoved : Type 0
UntaughtWhereUnmoved =
    (tasks : List TaskId) (who : List ℕ) (w x : World) (text : List ℕ) → Sound w → Sound x → Taught tasks who w x text
    → (text ≡ []) ↔ SameView (among tasks) w x

-- one text is said of what was done between two worlds, one of what differs between two, and one of all that is seen of a world
abbrev pub TaughtIsOne : Type 0
TaughtIsOne = (tasks : List TaskId) (who : List ℕ) (w x : World) (s t : List ℕ) → Taught tasks who w x s → Taught tasks who w x t → s ≡ t

abbrev pub ToldApartIsOne : Type 0
ToldApartIsOne = (tasks : List TaskId) (who : List ℕ) (w x : World) (s t : List ℕ) → ToldApart tasks who w x s → ToldApart tasks who w x t → s ≡ t

abbrev pub SeenIsOne : Type 0
SeenIsOne = (tasks : List TaskId) (who : List ℕ) (w : World) (a b : View) → Views tasks w a → Views tasks w b → seen_text who a ≡ seen_text who b

-- whether a thing that was done is counted, what is said after it, and what is shown after that
pub record Said : Type 0 where
  pub counts : Bool
  pub text : List ℕ
  pub shown : List ℕ

-- a paragraph for each answer, with what is said and shown after it; up to the first after which nothing was said yet
abbrev pub printed : List Answer → List Said → List ℕ
printed (answer ∷ answers) (said ∷ more) = paragraph answer (said.text ++ said.shown) ++ printed answers more
printed _ _ = []

-- one more, up to the greatest number that there is room for
abbrev pub one_more : ℕ → ℕ
one_more n = if nat_lt n 18446744073709551615 then n + 1 else n

-- one more thing that others did, which taught something where anything is said of it
abbrev pub counted : Tally → List ℕ → Tally
counted t text = record { others = one_more t.others; taught = if length text == 0 then t.taught else one_more t.taught }

-- the same of all that was said
abbrev pub tally_from : Tally → List Said → Tally
tally_from t [] = t
tally_from t (said ∷ more) = tally_from (if said.counts then counted t said.text else t) more

-- what comes after the number of things that others did
abbrev pub of_others : ℕ → List ℕ
of_others n = if n == 1 then codes " by others\n" else codes "s by others\n"

-- the last line: how many of the things that others did taught something, as ` command`
abbrev pub last_line : List ℕ → List ℕ → Tally → List ℕ
last_line names thing t = names ++ (codes " learned from " ++ (decimal t.taught ++ (codes " of " ++ (decimal t.others ++ (thing ++ of_others t.others)))))

-- what is learned, and what is seen, is said in sentences
abbrev pub TaughtInSentences : Type 0
TaughtInSentences = (who : List ℕ) (a b : View) (text : List ℕ) → Lessons who a b text → InSentences who text

abbrev pub SeenInSentences : Type 0
SeenInSentences = (who : List ℕ) (v : View) → InSentences who (seen_text who v)
