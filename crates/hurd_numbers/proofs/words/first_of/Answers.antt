use Rattle.hurd_numbers.proofs.WordLemmas.{first_said}
use Rattle.hurd_numbers.proofs.words.first_of.Goals as goal

pub returns-then-count-words : goal.returns-then-count-words
returns-then-count-words c = first_said c.args.count c.args.words.now c.if-count-words.true
