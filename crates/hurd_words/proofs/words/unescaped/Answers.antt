use Rattle.std.proofs.Common.{◌∙◌, false, inl, inr, string_bytes, sym, Global}
use Rattle.std.proofs.lemmas.Result.{err_from_is_err_and}
use Rattle.hurd_words.specs.Words.{text_after, text_of}
use Rattle.hurd_words.proofs.Loops.{is_err}
use Rattle.hurd_words.proofs.WordLemmas.{byte_read, byte_refused, hidden_word, next_visible, text_open, text_whole, word_begun, word_open, word_whole}
use Rattle.hurd_words.proofs.words.unescaped.Goals as goal

pub returns-then-has_hidden_byte : goal.returns-then-has_hidden_byte
returns-then-has_hidden_byte c = hidden_word text_of c.args.word.now (sym c.has_hidden_byte.ensures ∙ c.if-has_hidden_byte.true)

pub loop-byte-init : goal.loop-byte-init
loop-byte-init c = record {
  visible = sym c.has_hidden_byte.ensures ∙ c.if-has_hidden_byte.false;
  so_far = word_begun text_after false _ _ c.new-text.ensures.bytes;
}

pub take_byte-requires : goal.take_byte-requires
take_byte-requires c = (next_visible _ _ c.loop-byte-test.true c.loop-byte.invariant.visible).0

pub loop-byte-preserved : goal.loop-byte-preserved
loop-byte-preserved c = record {
  visible = (next_visible _ _ c.loop-byte-test.true c.loop-byte.invariant.visible).1;
  so_far = byte_read text_after _ _ _ _ _ _ _ c.loop-byte-test.true c.in_ok-escaped.ensures.ok c.loop-byte.invariant.so_far;
}

pub returns-in_err-escaped : goal.returns-in_err-escaped
returns-in_err-escaped c =
    let p = err_from_is_err_and c.from_residual.result c.from_residual.ensures.1 in
    let whole = sym c.has_hidden_byte.ensures ∙ c.if-has_hidden_byte.false in
    rw (p.1, p.2) (is_err (string_bytes {Z = Global}) _ _ (elim c.in_err-escaped.ensures.err [
      | inl memory ↦ inl memory
      | inr none ↦ inr (byte_refused text_after _ _ _ _ _ whole c.loop-byte-test.true c.loop-byte.invariant.so_far none)
    ]))

pub returns-then-escaped : goal.returns-then-escaped
returns-then-escaped c =
    word_open text_after _ _ _ _ _ text_open (sym c.has_hidden_byte.ensures ∙ c.if-has_hidden_byte.false) c.loop-byte-test.false (rw c.if-escaped.true at c.loop-byte.invariant.so_far)

pub returns-else-escaped : goal.returns-else-escaped
returns-else-escaped c =
    word_whole text_after _ _ _ _ _ text_whole (sym c.has_hidden_byte.ensures ∙ c.if-has_hidden_byte.false) c.loop-byte-test.false (rw c.if-escaped.false at c.loop-byte.invariant.so_far)
