use Rattle.std.proofs.Common.{Some, ◌∙◌, ap, inl, inr, sym}
use Rattle.std.proofs.lemmas.Result.{err_from_is_err_and}
use Rattle.hurd_creds.specs.declared.bytes.Bytes.{Bytes}
use Rattle.hurd_words.proofs.Loops.{is_err}
use Rattle.hurd_words.proofs.WordLemmas.{byte_read, byte_refused, hidden_word, word_begun, word_open, word_whole}
use Rattle.hurd_lists.specs.Words.{bytes_after, bytes_of}
use Rattle.hurd_lists.specs.declared.words.Escape.TheVariants.{Plain}
use Rattle.hurd_lists.proofs.WordLemmas.{ends_plain, left_open}
use Rattle.hurd_lists.proofs.words.unescaped.Goals as goal

pub returns-then-has_hidden_byte : goal.returns-then-has_hidden_byte
returns-then-has_hidden_byte c = hidden_word bytes_of c.args.word.now (sym c.has_hidden_byte.ensures ∙ c.if-has_hidden_byte.true)

pub loop-byte-init : goal.loop-byte-init
loop-byte-init c = word_begun bytes_after Plain _ _ c.new-bytes.ensures.items

pub loop-byte-preserved : goal.loop-byte-preserved
loop-byte-preserved c = byte_read bytes_after _ _ _ _ _ _ _ c.loop-byte-test.true c.in_ok-escape.ensures.ok c.loop-byte.invariant

pub returns-in_err-escape : goal.returns-in_err-escape
returns-in_err-escape c =
    let p = err_from_is_err_and c.from_residual.result c.from_residual.ensures.1 in
    let whole = sym c.has_hidden_byte.ensures ∙ c.if-has_hidden_byte.false in
    rw (p.1, p.2) (is_err (λ (b : Bytes). b) _ _ (elim c.in_err-escape.ensures.err [
      | inl memory ↦ inl memory
      | inr none ↦ inr (byte_refused bytes_after _ _ _ _ _ whole c.loop-byte-test.true c.loop-byte.invariant none)
    ]))

pub returns-in-Plain : goal.returns-in-Plain
returns-in-Plain c =
    word_whole bytes_after _ _ _ _ _ ends_plain (sym c.has_hidden_byte.ensures ∙ c.if-has_hidden_byte.false) c.loop-byte-test.false (rw c.in-Plain.is at c.loop-byte.invariant) ∙ ap Some (sym c.new.ensures)

pub returns-in-Begun : goal.returns-in-Begun
returns-in-Begun c =
    word_open bytes_after _ _ _ _ _ (left_open _ c.in-Begun.is) (sym c.has_hidden_byte.ensures ∙ c.if-has_hidden_byte.false) c.loop-byte-test.false c.loop-byte.invariant
