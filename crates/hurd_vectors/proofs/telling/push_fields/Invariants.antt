use Rattle.std.proofs.Common.{◌≡◌, ◌++◌, drop}
use Rattle.hurd_vectors.specs.Fields.{told_fields}
use Rattle.hurd_vectors.proofs.telling.push_fields.Given as goal

abbrev pub invariant-loop-field : goal.invariant-loop-field
invariant-loop-field l = l.text.items ++ told_fields (drop l.field-index l.fields) l.left ≡ l.fn.text.items ++ told_fields l.fields l.words
