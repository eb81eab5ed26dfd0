-- What a command or a call is answered, and how `hurd run` prints it.
use Rattle.std.specs.Prelude.{ℕ, ◌==◌, if◌then◌else◌, List, [], ◌∷◌, ◌++◌, codes}
use Rattle.hurd_creds.specs.Errors.{name_of}
use Rattle.hurd_words.specs.declared.answers.Answer.{Answer}
use Rattle.hurd_words.specs.declared.answers.Content.{Content}
use Rattle.hurd_words.specs.declared.answers.Content.TheVariants.{Text, Names}
use Rattle.hurd_words.specs.declared.answers.Ending.{Ending}
use Rattle.hurd_words.specs.declared.answers.Ending.TheVariants.{Done, Refused, Usage}

-- a text that isn't empty ends with a newline
abbrev pub ended_lines : List ℕ → List ℕ
ended_lines [] = []
ended_lines (b ∷ []) = if b == 10 then b ∷ [] else b ∷ 10 ∷ []
ended_lines (b ∷ c ∷ bs) = b ∷ ended_lines (c ∷ bs)

-- names, one a line
abbrev pub as_lines : List (List ℕ) → List ℕ
as_lines [] = []
as_lines (name ∷ names) = name ++ 10 ∷ as_lines names

-- what was put out, with a newline at its end
abbrev pub plain_content : Content → List ℕ
plain_content (Text bytes) = ended_lines bytes
plain_content (Names names) = as_lines names

-- the word for what ended a command: the name of the error that refused it, or `usage`
abbrev pub ending_line : Ending → List ℕ
ending_line Done = []
ending_line (Refused e) = name_of e ++ 10 ∷ []
ending_line Usage = codes "usage\n"

-- an answer as `hurd run` prints it: the line, what was put out, and what ended it
abbrev pub plain : Answer → List ℕ
plain a = a.line ++ 10 ∷ (plain_content a.content ++ ending_line a.ending)
