-- Each vector is a line.
use Rattle.std.proofs.Common.{◌≡◌, ℕ, true, List, [], ◌∷◌, ◌++◌, append_assoc, codes, refl}
use Rattle.std.specs.List.{All}
use Rattle.std.proofs.lemmas.List.Elements.{All-cons, All-nil}
use Rattle.hurd_words.specs.Lines.{lines_of}
use Rattle.hurd_machine.specs.Calls.{Reply}
use Rattle.hurd_machine.specs.World.{World}
use Rattle.hurd_laws.specs.Step.{reply_of}
use Rattle.hurd_lists.specs.Lists.{Listed, Standing, reading_of}
use Rattle.hurd_tmpfs.specs.Tree.{new_tmpfs}
use Rattle.hurd_world.specs.Boot.{first_world}
use Rattle.hurd_calls.specs.Making.{after_call}
use Rattle.hurd_calls.specs.Readings.{said_in}
use Rattle.hurd_vectors.specs.Fields.{call_fields}
use Rattle.hurd_vectors.specs.Lines.{IsLine, header_of, line_words, tasks_text, vector_of}
use Rattle.hurd_vectors.specs.Replies.{reply_text}
use Rattle.hurd_vectors.specs.Vectors.{vector_in, vectors_by, vectors_from, vectors_of}
use Rattle.hurd_vectors.proofs.FieldLaws.{call_printable}
use Rattle.hurd_vectors.proofs.LineLaws.{both}
use Rattle.hurd_vectors.proofs.ReplyLaws.{reply_printable}
use Rattle.hurd_vectors.proofs.TaskLaws.{tasks_printable}

-- where the end of a line stands

behind_three : (one two three end : List ℕ) → one ++ (two ++ (three ++ end)) ≡ (one ++ (two ++ three)) ++ end
behind_three one two three end = simp append_assoc

behind_four : (one two three four end : List ℕ) → one ++ (two ++ (three ++ (four ++ end))) ≡ (one ++ (two ++ (three ++ four))) ++ end
behind_four one two three four end = simp append_assoc

-- the vector of a call

pub vector_is_line : (line : List ℕ) (r : Reply) → IsLine (vector_of line r)
vector_is_line line r =
    let fields = call_fields (line_words line) in
    record {
      front = 123 ∷ fields ++ (codes "\"reply\": " ++ (reply_text r ++ codes "}"));
      is = behind_four (123 ∷ fields) (codes "\"reply\": ") (reply_text r) (codes "}") (10 ∷ []);
      printable = both fields (codes "\"reply\": " ++ (reply_text r ++ codes "}")) (call_printable (line_words line))
          (both (codes "\"reply\": ") (reply_text r ++ codes "}") refl (both (reply_text r) (codes "}") (reply_printable r) refl));
    }

-- the line of the tasks

pub header_is_line : (text : List ℕ) → IsLine (header_of text)
header_is_line text =
    let tasks = tasks_text true (lines_of text) in
    record {
      front = codes "{\"tasks\": [" ++ (tasks ++ codes "]}");
      is = behind_three (codes "{\"tasks\": [") tasks (codes "]}") (10 ∷ []);
      printable = both (codes "{\"tasks\": [") (tasks ++ codes "]}") refl (both tasks (codes "]}") (tasks_printable true (lines_of text)) refl);
    }

-- all vectors, of calls that are made one after another

calls_are_lines : (calls : List Listed) (w : World) → All IsLine (vectors_from calls w)
unfolding vectors_from
calls_are_lines [] w = All-nil IsLine
calls_are_lines (c ∷ cs) w = All-cons IsLine (vector_in c w) (vectors_from cs (after_call c w)) (vector_is_line c.line (reply_of w c.task.0 c.call)) (calls_are_lines cs (after_call c w))

lines_by : (text : List ℕ) (said : Standing) → All IsLine (vectors_by text said)
lines_by text said =
    let first = first_world new_tmpfs said.tasks in
    All-cons IsLine (header_of text) (vectors_from said.calls first) (header_is_line text) (calls_are_lines said.calls first)

pub each_is_line : (text : List ℕ) → All IsLine (vectors_of text)
each_is_line text = lines_by text (said_in (reading_of text))
