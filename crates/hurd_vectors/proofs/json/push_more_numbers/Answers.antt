use Rattle.std.proofs.Common.{◌∙◌, refl, sym}
use Rattle.hurd_vectors.proofs.JsonLemmas.{number_printed, numbers_printed}
use Rattle.hurd_vectors.proofs.json.push_more_numbers.Goals as goal

pub loop-word-preserved : goal.loop-word-preserved
loop-word-preserved c = number_printed _ _ c.args.words.now c.loop-word.word-index _ c.loop-word-test.true refl c.in_ok-push_next_number.ensures ∙ c.loop-word.invariant

pub returns : goal.returns
returns c = sym (numbers_printed _ c.args.words.now c.loop-word.word-index c.loop-word-test.false) ∙ c.loop-word.invariant
