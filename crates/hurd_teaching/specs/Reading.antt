-- What is read of all that a program of learners prints.
use Rattle.std.specs.Prelude.{◌≡◌, ℕ, true, List, [], ◌∷◌, ◌++◌}
use Rattle.hurd_creds.specs.declared.name.TaskId.{TaskId}
use Rattle.hurd_words.specs.Marks.{AreReadAlike}
use Rattle.hurd_words.specs.Sentences.{InSentences}
use Rattle.hurd_words.specs.Turns.{is_line}
use Rattle.hurd_words.specs.declared.answers.Answer.{Answer}
use Rattle.hurd_lessons.specs.Told.{Said, last_line, printed}
use Rattle.hurd_lessons.specs.declared.tally.Tally.{Tally}
use Rattle.hurd_teaching.specs.Learners.{see_of, verb_of}

-- all that is said is sentences: these tasks, who are called so, learn something, and what is shown is what they see
abbrev pub AreSentences : List TaskId → List ℕ → List Said → Type 0
AreSentences tasks names [] = Unit {0}
AreSentences tasks names (x ∷ xs) = InSentences (names ++ verb_of tasks) x.text × InSentences (names ++ see_of tasks) x.shown × AreSentences tasks names xs

-- what a reader is told of each thing that was done: what it was answered, what was learned by it, and what was seen then
pub record Reading : Type 0 where
  pub answer : Answer
  pub learned : List ℕ
  pub seen : List ℕ

abbrev pub read_of : List Answer → List Said → List Reading
read_of (answer ∷ answers) (x ∷ xs) = record { answer = answer; learned = x.text; seen = x.shown } ∷ read_of answers xs
read_of _ _ = []

-- as many things, of which each was answered alike, and taught and showed the same
abbrev pub ReadingsAlike : List Reading → List Reading → Type 0
ReadingsAlike [] [] = Unit {0}
ReadingsAlike (r ∷ rs) (s ∷ ss) = AreReadAlike r.answer s.answer × (r.learned ≡ s.learned) × (r.seen ≡ s.seen) × ReadingsAlike rs ss
ReadingsAlike _ _ = ⊥

-- outputs that are alike tell the same, whatever was done: what was put out, to the byte, and what ended each command; and no text of a user's passes for
-- what is said of it
abbrev pub ReadBack : Type 0
ReadBack =
    (tasks : List TaskId) (names thing : List ℕ) (ps qs : List Answer) (xs ys : List Said) (t u : Tally)
    → is_line names ≡ true → is_line thing ≡ true → AreSentences tasks names xs → AreSentences tasks names ys
    → printed ps xs ++ last_line names thing t ≡ printed qs ys ++ last_line names thing u
    → ReadingsAlike (read_of ps xs) (read_of qs ys) × (last_line names thing t ≡ last_line names thing u)
