use Rattle.std.proofs.Common.{◌≡◌, ◌++◌, drop}
use Rattle.hurd_words.specs.Answers.{as_lines}
use Rattle.hurd_words.proofs.answers.push_names.Given as goal

abbrev pub invariant-loop-name : goal.invariant-loop-name
invariant-loop-name l = l.text.items ++ as_lines (drop l.name-index l.names) ≡ l.fn.text.items ++ as_lines l.names
