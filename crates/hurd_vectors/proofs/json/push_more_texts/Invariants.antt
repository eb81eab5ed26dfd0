use Rattle.std.proofs.Common.{◌≡◌, ◌++◌, drop}
use Rattle.hurd_vectors.specs.Json.{more_texts}
use Rattle.hurd_vectors.proofs.json.push_more_texts.Given as goal

abbrev pub invariant-loop-item : goal.invariant-loop-item
invariant-loop-item l = l.text.items ++ more_texts l.skip (drop l.item-index l.items) ≡ l.fn.text.items ++ more_texts l.skip l.items
