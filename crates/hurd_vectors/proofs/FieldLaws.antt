-- The fields of calls are printable ASCII.
use Rattle.std.proofs.Common.{refl, ℕ, List, [], ◌∷◌, ◌++◌, Option, Some, None, codes, drop}
use Rattle.hurd_lists.specs.Calls.{before_box, behind_box}
use Rattle.hurd_lists.specs.Lists.{verb_named}
use Rattle.hurd_vectors.specs.Fields.{call_fields, field_name, field_text, fields_of, server_text, sort_of, told_fields, value, word_at, words_behind}
use Rattle.hurd_vectors.specs.Json.{texts}
use Rattle.hurd_vectors.specs.declared.field.Field.{Field}
use Rattle.hurd_vectors.specs.declared.field.Field.TheVariants.{Task, Call}
use Rattle.hurd_vectors.specs.declared.field.Sort.{Sort}
use Rattle.hurd_vectors.specs.declared.field.Sort.TheVariants as sort
use Rattle.hurd_vectors.proofs.LineLaws.{Printable, both, names_printable, quoted_printable}
use Rattle.hurd_vectors.proofs.NumberLaws.{number_printable, numbers_printable, texts_printable}

field_name_printable : (field : Field) → Printable (field_name field)
field_name_printable Task = refl
field_name_printable _ = refl

value_printable : (s : Sort) (words : List (List ℕ)) → Printable (value s words)
value_printable sort.Number words = number_printable (word_at words 0)
value_printable sort.Plain words = quoted_printable (word_at words 0)
value_printable sort.Bytes words = quoted_printable (drop 1 (word_at words 0))
value_printable sort.Names words = names_printable (word_at words 0)
value_printable sort.Numbers words = numbers_printable (word_at words 0)
value_printable sort.Texts words = texts_printable 1 (before_box words)

-- a name and a value, as a field
field_of : (name text : List ℕ) → Printable name → Printable text → Printable (34 ∷ name ++ (codes "\": " ++ (text ++ codes ", ")))
field_of name text named valued = both name (codes "\": " ++ (text ++ codes ", ")) named (both (codes "\": ") (text ++ codes ", ") refl (both text (codes ", ") valued refl))

field_printable : (field : Field) (words : List (List ℕ)) → Printable (field_text field words)
field_printable field words = field_of (field_name field) (value (sort_of field) words) (field_name_printable field) (value_printable (sort_of field) words)

server_printable : (server : Option (List (List ℕ))) → Printable (server_text server)
server_printable None = refl
server_printable (Some words) = both (codes "\"server\": ") (texts 1 words ++ codes ", ") refl (both (texts 1 words) (codes ", ") (texts_printable 1 words) refl)

fields_printable : (fields : List Field) (words : List (List ℕ)) → Printable (told_fields fields words)
unfolding told_fields
fields_printable [] words = server_printable (behind_box words)
fields_printable (field ∷ more) words =
    both (field_text field words) (told_fields more (words_behind (sort_of field) words)) (field_printable field words) (fields_printable more (words_behind (sort_of field) words))

pub call_printable : (words : List (List ℕ)) → Printable (call_fields words)
call_printable words = fields_printable (Task ∷ Call ∷ fields_of (verb_named (word_at words 1))) words
