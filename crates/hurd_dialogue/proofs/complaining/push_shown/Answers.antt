use Rattle.std.proofs.Common.{◌∙◌, sym}
use Rattle.hurd_dialogue.proofs.ShownLaws.{shown_ended, shown_next}
use Rattle.hurd_dialogue.proofs.complaining.push_shown.Goals as goal

pub loop-byte-preserved : goal.loop-byte-preserved
loop-byte-preserved c = shown_next _ _ c.args.bytes.now c.loop-byte.byte-index c.loop-byte-test.true c.in_ok-push_shown_byte.ensures ∙ c.loop-byte.invariant

pub returns : goal.returns
returns c = sym (shown_ended _ c.args.bytes.now c.loop-byte.byte-index c.loop-byte-test.false) ∙ c.loop-byte.invariant
