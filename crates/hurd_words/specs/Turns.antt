-- What is printed of things that are done one after another, and that it can be read back.
use Rattle.std.specs.Prelude.{◌≡◌, ◌≢◌, ℕ, ◌==◌, not, Bool, true, List, [], ◌∷◌, ◌++◌, map}
use Rattle.std.specs.List.{concat, list_all}
use Rattle.hurd_words.specs.Marks.{AreReadAlike, marked}
use Rattle.hurd_words.specs.Sentences.{Sentence, are_sentences, sentence_lines}
use Rattle.hurd_words.specs.Spelling.{spelled_by}
use Rattle.hurd_words.specs.declared.answers.Answer.{Answer}

-- of one thing: what it was answered, what is learned by it, and what is seen then
pub record Turn : Type 0 where
  pub answer : Answer
  pub learned : List Sentence
  pub seen : List Sentence

-- the answer, the sentences, and an empty line
abbrev pub paragraph : Answer → List ℕ → List ℕ
paragraph answer sentences = marked answer ++ (sentences ++ 10 ∷ [])

abbrev pub turn_text : List ℕ → List ℕ → Turn → List ℕ
turn_text learns sees t = paragraph t.answer (sentence_lines learns t.learned ++ sentence_lines sees t.seen)

abbrev pub turns_text : List ℕ → List ℕ → List Turn → List ℕ
turns_text learns sees turns = concat (map (turn_text learns sees) turns)

-- what is said in a turn are sentences
abbrev pub AreSaid : List Turn → Type 0
AreSaid [] = Unit {0}
AreSaid (t ∷ turns) = (are_sentences t.learned ≡ true) × (are_sentences t.seen ≡ true) × AreSaid turns

-- as many turns, of which each was answered alike, with the same sentences
abbrev pub TurnsAlike : List Turn → List Turn → Type 0
TurnsAlike [] [] = Unit {0}
TurnsAlike (t ∷ ts) (u ∷ us) = AreReadAlike t.answer u.answer × (t.learned ≡ u.learned) × (t.seen ≡ u.seen) × TurnsAlike ts us
TurnsAlike _ _ = ⊥

-- no text begins in both of these ways
abbrev pub AreApart : List ℕ → List ℕ → Type 0
AreApart a b = (s t : List ℕ) → a ++ s ≢ b ++ t

-- a text without a newline
abbrev pub is_line : List ℕ → Bool
is_line text = list_all (λ b. not (b == 10)) text

-- what is printed is read in one way: the answers, what was learned and what was seen after each, by clauses, parts and words, and the last line
abbrev pub ReadsBack : Type 0
ReadsBack =
    (learns sees : List ℕ) (ts us : List Turn) (s t : List ℕ) → AreApart learns sees → AreSaid ts → AreSaid us → is_line s ≡ true → is_line t ≡ true
    → turns_text learns sees ts ++ (s ++ 10 ∷ []) ≡ turns_text learns sees us ++ (t ++ 10 ∷ []) → TurnsAlike ts us × (s ≡ t)

-- and so are words and names of users
abbrev pub SpellsBack : Type 0
SpellsBack = (path : Bool) (v w : List ℕ) → spelled_by path v ≡ spelled_by path w → v ≡ w
