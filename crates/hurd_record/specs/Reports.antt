-- Those whom a report names.
use Rattle.std.specs.Prelude.{List, ℕ, [], ◌++◌, Option, Some, None, codes, string_bytes}
use Rattle.std.specs.Option.{option_map}
use Rattle.hurd_words.specs.Escapes.{escaped}
use Rattle.hurd_record.specs.declared.report.Report.{Report}
use Rattle.hurd_record.specs.declared.report.Report.TheVariants.{Transcript, Lessons, Sight, Picture}

-- those whom a report names, if it names any
abbrev pub word_of : Report → Option (List ℕ)
word_of Transcript = None
word_of (Lessons who most) = Some (string_bytes who)
word_of (Sight who most) = Some (string_bytes who)
word_of (Picture who can) = option_map string_bytes who

-- what is said where one of these isn't in a record
abbrev pub stranger_of : Option (List ℕ) → List ℕ
stranger_of None = []
stranger_of (Some word) = codes ": no such task: " ++ (escaped word ++ codes "\n")
