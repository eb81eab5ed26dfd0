use Rattle.std.proofs.Common.{◌∙◌, refl, sym}
use Rattle.hurd_vectors.proofs.JsonLemmas.{all_printed, names_in_turn, next_printed}
use Rattle.hurd_vectors.proofs.json.push_name_bytes.Goals as goal

pub loop-byte-preserved : goal.loop-byte-preserved
loop-byte-preserved c = next_printed _ _ names_in_turn _ _ c.args.bytes.now c.loop-byte.byte-index _ 0 c.loop-byte-test.true refl c.in_ok-push_name_byte.ensures ∙ c.loop-byte.invariant

pub returns : goal.returns
returns c = sym (all_printed _ _ names_in_turn _ c.args.bytes.now c.loop-byte.byte-index c.loop-byte-test.false) ∙ c.loop-byte.invariant
