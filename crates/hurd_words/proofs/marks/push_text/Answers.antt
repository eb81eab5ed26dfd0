use Rattle.std.proofs.Common.{sym, ◌∙◌}
use Rattle.std.proofs.lemmas.Result.{on_ok_weaker}
use Rattle.hurd_words.proofs.MarkLaws.{mark_ended, mark_next}
use Rattle.hurd_words.proofs.marks.push_text.Goals as goal

pub loop-byte-preserved : goal.loop-byte-preserved
loop-byte-preserved c = mark_next c.loop-byte.due _ _ c.args.bytes.now c.loop-byte.byte-index c.loop-byte-test.true c.in_ok-push_marked_byte.ensures ∙ c.loop-byte.invariant

pub returns : goal.returns
returns c =
    on_ok_weaker c.push_end.result
    (λ pushed. pushed ∙ (sym (mark_ended c.loop-byte.due _ c.args.bytes.now c.loop-byte.byte-index c.loop-byte-test.false) ∙ c.loop-byte.invariant)) c.push_end.ensures
