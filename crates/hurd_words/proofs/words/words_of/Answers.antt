use Rattle.std.proofs.Common.{drop, ◌+◌, ◌∙◌, ap, inl, inr, map, string_bytes, sym, Global, String, Vec}
use Rattle.std.proofs.lemmas.Result.{err_from_is_err_and}
use Rattle.hurd_words.specs.Reading.{behind, good_words, said}
use Rattle.hurd_words.specs.Words.{text_of}
use Rattle.hurd_words.proofs.Loops.{is_err, next_piece}
use Rattle.hurd_words.proofs.words.words_of.Goals as goal

pub loop-piece-preserved : goal.loop-piece-preserved
loop-piece-preserved c =
    let front = map (string_bytes {Z = Global}) c.loop-piece.words.items in
    sym (next_piece (λ ps. behind front (good_words text_of ps)) c.as_slice-piece-items.result.now c.loop-piece.piece-index c.loop-piece-test.true ∙ c.in_ok-add_word.ensures.ok (drop (c.loop-piece.piece-index + 1) (said c.as_slice-piece-items.result.now))) ∙ c.loop-piece.invariant

pub returns-in_err-add_word : goal.returns-in_err-add_word
returns-in_err-add_word c =
    let p = err_from_is_err_and c.from_residual-in_err-add_word.result c.from_residual-in_err-add_word.ensures.1 in
    let front = map (string_bytes {Z = Global}) c.loop-piece.words.items in
    rw (p.1, p.2) (is_err (λ (v : Vec (String Global) Global). map (string_bytes {Z = Global}) v.items) _ _ (elim c.in_err-add_word.ensures.err [
      | inl memory ↦ inl memory
      | inr none ↦ inr (sym c.loop-piece.invariant ∙ (next_piece (λ ps. behind front (good_words text_of ps)) c.as_slice-piece-items.result.now c.loop-piece.piece-index c.loop-piece-test.true ∙ ap (behind front) (none (drop (c.loop-piece.piece-index + 1) (said c.as_slice-piece-items.result.now)))))
    ]))
