-- The tasks of a list are printable ASCII.
use Rattle.std.proofs.Common.{refl, ℕ, Bool, true, false, ◌&&◌, List, [], ◌∷◌, ◌++◌, Some, None, codes, if◌then◌else◌, is_none}
use Rattle.hurd_words.specs.Lines.{is_skipped}
use Rattle.hurd_words.specs.Users.{begins_with}
use Rattle.hurd_vectors.specs.Fields.{word_at}
use Rattle.hurd_vectors.specs.Json.{numbers}
use Rattle.hurd_vectors.specs.Lines.{ids_by, ids_of, ids_on, ids_text, line_words, tasks_text}
use Rattle.hurd_vectors.proofs.LineLaws.{Printable, both, choose}
use Rattle.hurd_vectors.proofs.NumberLaws.{numbers_printable}

ids_printable : (words : List (List ℕ)) → Printable (ids_of words)
ids_printable words =
    let gids = numbers (word_at words 2) ++ codes "}" in
    both (codes "{\"uids\": ") (numbers (word_at words 1) ++ (codes ", \"gids\": " ++ gids)) refl (both (numbers (word_at words 1)) (codes ", \"gids\": " ++ gids) (numbers_printable (word_at words 1))
    (both (codes ", \"gids\": ") gids refl (both (numbers (word_at words 2)) (codes "}") (numbers_printable (word_at words 2)) refl)))

behind_comma : (first : Bool) (ids : List ℕ) → Printable ids → Printable (ids_text first (Some ids))
behind_comma first ids all = choose first ids (codes ", " ++ ids) all (both (codes ", ") ids refl all)

-- of a line that is a task's or not

by_words : (first is : Bool) (words : List (List ℕ)) → Printable (ids_text first (if is then Some (ids_of words) else None))
by_words first true words = behind_comma first (ids_of words) (ids_printable words)
by_words first false words = refl

on_line : (first skipped : Bool) (line : List ℕ) → Printable (ids_text first (if skipped then None else ids_by (line_words line)))
on_line first true line = refl
on_line first false line = by_words first (begins_with (codes "task") (line_words line)) (line_words line)

pub tasks_printable : (first : Bool) (lines : List (List ℕ)) → Printable (tasks_text first lines)
unfolding tasks_text
tasks_printable first [] = refl
tasks_printable first (line ∷ lines) =
    both (ids_text first (ids_on line)) (tasks_text (first && is_none (ids_on line)) lines) (on_line first (is_skipped line) line) (tasks_printable (first && is_none (ids_on line)) lines)
