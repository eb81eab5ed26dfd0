use Rattle.hurd_numbers.proofs.WordLemmas.{rest_said}
use Rattle.hurd_numbers.proofs.words.after_first.Goals as goal

pub returns-then-count-words : goal.returns-then-count-words
returns-then-count-words c = rest_said c.args.count c.args.words.now c.if-count-words.true
