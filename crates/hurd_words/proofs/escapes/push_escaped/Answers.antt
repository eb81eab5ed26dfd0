use Rattle.std.proofs.Common.{◌∙◌, sym}
use Rattle.hurd_words.proofs.EscapeLemmas.{bytes_ended, bytes_next}
use Rattle.hurd_words.proofs.escapes.push_escaped.Goals as goal

pub loop-byte-preserved : goal.loop-byte-preserved
loop-byte-preserved c = bytes_next _ _ c.args.bytes.now c.loop-byte.byte-index c.loop-byte-test.true c.in_ok-push_escaped_byte.ensures ∙ c.loop-byte.invariant

pub returns : goal.returns
returns c = sym (bytes_ended _ c.args.bytes.now c.loop-byte.byte-index c.loop-byte-test.false) ∙ c.loop-byte.invariant
