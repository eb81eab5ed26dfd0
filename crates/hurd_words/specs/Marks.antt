-- How an answer is printed between sentences: each of its lines has a mark, so that no text of a user's passes for a line of the program's own.
use Rattle.std.specs.Prelude.{◌≡◌, ℕ, ◌==◌, Bool, true, List, [], ◌∷◌, ◌++◌, if◌then◌else◌, codes, map}
use Rattle.std.specs.List.{concat}
use Rattle.hurd_creds.specs.Errors.{name_of}
use Rattle.hurd_words.specs.Answers.{as_lines}
use Rattle.hurd_words.specs.declared.answers.Answer.{Answer}
use Rattle.hurd_words.specs.declared.answers.Content.{Content}
use Rattle.hurd_words.specs.declared.answers.Content.TheVariants.{Text, Names}
use Rattle.hurd_words.specs.declared.answers.Ending.{Ending}
use Rattle.hurd_words.specs.declared.answers.Ending.TheVariants.{Done, Refused, Usage}

-- the line after a text whose last line has no newline
abbrev pub unended : List ℕ
unended = codes "\n\\ no newline\n"

-- a text, with a mark before each line; `due` says that a line begins here
unfoldable pub marked_from : Bool → List ℕ → List ℕ
marked_from due [] = if due then [] else unended
marked_from due (b ∷ bs) = (if due then codes "| " else []) ++ b ∷ marked_from (b == 10) bs

-- a byte of a name; where the name goes on after a newline, its next line has another mark
abbrev pub spread_byte : ℕ → List ℕ
spread_byte b = if b == 10 then codes "\n: " else b ∷ []

abbrev pub spread_bytes : List ℕ → List ℕ
spread_bytes bytes = concat (map spread_byte bytes)

-- a name, and a newline
abbrev pub spread : List ℕ → List ℕ
spread name = spread_bytes name ++ 10 ∷ []

-- names, each with a mark
abbrev pub marked_names : List (List ℕ) → List ℕ
marked_names [] = []
marked_names (name ∷ names) = codes "| " ++ (spread name ++ marked_names names)

abbrev pub marked_content : Content → List ℕ
marked_content (Text bytes) = marked_from true bytes
marked_content (Names names) = marked_names names

-- what ended a command, with a mark that no line of an output has
abbrev pub marked_ending : Ending → List ℕ
marked_ending Done = []
marked_ending (Refused e) = codes "! " ++ (name_of e ++ 10 ∷ [])
marked_ending Usage = codes "! usage\n"

-- an answer: its line as it is, then what was put out and what ended it, with marks
abbrev pub marked : Answer → List ℕ
marked a = spread a.line ++ (marked_content a.content ++ marked_ending a.ending)

-- contents that are read alike: the same bytes, the same names, or a text that is these names, one a line
abbrev pub ReadsAlike : Content → Content → Type 0
ReadsAlike (Text s) (Text t) = s ≡ t
ReadsAlike (Names names) (Names others) = names ≡ others
ReadsAlike (Text s) (Names names) = s ≡ as_lines names
ReadsAlike (Names names) (Text t) = as_lines names ≡ t

-- answers that are read alike: to the same line, with the same ending
pub record AreReadAlike (a b : Answer) : Type 0 where
  pub line : a.line ≡ b.line
  pub content : ReadsAlike a.content b.content
  pub ending : a.ending ≡ b.ending
