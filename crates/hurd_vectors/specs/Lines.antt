-- The lines that are printed of a list: one of its tasks, and one of a call with its reply.
use Rattle.std.specs.Prelude.{◌≡◌, ℕ, ◌==◌, ◌&&◌, Bool, true, List, [], ◌∷◌, ◌++◌, Option, Some, None, codes, if◌then◌else◌, is_none, nat_le}
use Rattle.std.specs.List.{list_all, slice_split}
use Rattle.hurd_words.specs.Lines.{is_skipped, lines_of}
use Rattle.hurd_words.specs.Reading.{good_words}
use Rattle.hurd_words.specs.Users.{begins_with}
use Rattle.hurd_machine.specs.Calls.{Reply}
use Rattle.hurd_lists.specs.Words.{bytes_of}
use Rattle.hurd_vectors.specs.Fields.{call_fields, word_at}
use Rattle.hurd_vectors.specs.Json.{numbers}
use Rattle.hurd_vectors.specs.Replies.{reply_text}

-- words that are there, and else none
abbrev pub words_or_none : Option (List (List ℕ)) → List (List ℕ)
words_or_none None = []
words_or_none (Some words) = words

-- the words of a line, with their escapes resolved; a bad one has none
abbrev pub line_words : List ℕ → List (List ℕ)
line_words line = words_or_none (good_words bytes_of (slice_split (λ b. b == 32) line))

-- a call with its reply, on a line
abbrev pub vector_of : List ℕ → Reply → List ℕ
vector_of line r = 123 ∷ call_fields (line_words line) ++ (codes "\"reply\": " ++ (reply_text r ++ codes "}\n"))

-- the ids of a task, by the words after `task`
abbrev pub ids_of : List (List ℕ) → List ℕ
ids_of words = codes "{\"uids\": " ++ (numbers (word_at words 1) ++ (codes ", \"gids\": " ++ (numbers (word_at words 2) ++ codes "}")))

-- the ids of a line that is a task's, of these words
abbrev pub ids_by : List (List ℕ) → Option (List ℕ)
ids_by words = if begins_with (codes "task") words then Some (ids_of words) else None

abbrev pub ids_on : List ℕ → Option (List ℕ)
ids_on line = if is_skipped line then None else ids_by (line_words line)

-- after a comma, except for the first
abbrev pub ids_text : Bool → Option (List ℕ) → List ℕ
ids_text first None = []
ids_text first (Some ids) = if first then ids else codes ", " ++ ids

-- the ids of all tasks that these lines say
unfoldable pub tasks_text : Bool → List (List ℕ) → List ℕ
tasks_text first [] = []
tasks_text first (line ∷ lines) = ids_text first (ids_on line) ++ tasks_text (first && is_none (ids_on line)) lines

-- the tasks of a list, on a line
abbrev pub header_of : List ℕ → List ℕ
header_of text = codes "{\"tasks\": [" ++ (tasks_text true (lines_of text) ++ codes "]}\n")

-- a byte from the space to `~`
abbrev pub is_printable : ℕ → Bool
is_printable b = nat_le 32 b && nat_le b 126

-- a line: a newline after such bytes
pub record IsLine (line : List ℕ) : Type 0 where
  pub front : List ℕ
  pub is : line ≡ front ++ 10 ∷ []
  pub printable : list_all is_printable front ≡ true
