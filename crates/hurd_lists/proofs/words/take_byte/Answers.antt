use Rattle.std.proofs.Common.{ap}
use Rattle.hurd_words.specs.Reading.{behind}
use Rattle.hurd_lists.proofs.WordLemmas.{at_high}
use Rattle.hurd_lists.proofs.words.take_byte.Goals as goal

pub returns-in-Hex-clause-ok : goal.returns-in-Hex-clause-ok
returns-in-Hex-clause-ok c = λ rest. rw c.in-Hex.is (ap (behind _) (at_high _ rest))
