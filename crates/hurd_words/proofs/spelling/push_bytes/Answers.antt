use Rattle.std.proofs.Common.{◌∙◌, sym}
use Rattle.hurd_words.proofs.SpellingLaws.{bytes_ended, bytes_next}
use Rattle.hurd_words.proofs.spelling.push_bytes.Goals as goal

pub loop-byte-preserved : goal.loop-byte-preserved
loop-byte-preserved c = bytes_next c.args.path _ _ c.args.bytes.now c.loop-byte.byte-index c.loop-byte-test.true c.in_ok-push_byte.ensures ∙ c.loop-byte.invariant

pub returns : goal.returns
returns c = sym (bytes_ended c.args.path _ c.args.bytes.now c.loop-byte.byte-index c.loop-byte-test.false) ∙ c.loop-byte.invariant
