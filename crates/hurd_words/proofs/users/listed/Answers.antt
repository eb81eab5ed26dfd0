use Rattle.std.proofs.Common.{◌∙◌, ◌+◌, ap, drop, inl, inr, sym, Global, Vec, ℕ}
use Rattle.std.proofs.lemmas.Result.{err_from_is_err_and}
use Rattle.hurd_words.specs.Reading.{behind, said}
use Rattle.hurd_words.specs.Users.{numbers_of}
use Rattle.hurd_words.proofs.Loops.{is_err, last_piece, next_piece}
use Rattle.hurd_words.proofs.UserLemmas.{listed_by, numbers_ended}
use Rattle.hurd_words.proofs.users.listed.Goals as goal

pub loop-part-preserved : goal.loop-part-preserved
loop-part-preserved c =
    let items = c.as_slice-part-items.result.now in
    let front = c.loop-part.numbers.items in
    sym (next_piece (λ ps. behind front (numbers_of ps)) items c.loop-part.part-index c.loop-part-test.true ∙ c.in_ok-add_number.ensures.ok (drop (c.loop-part.part-index + 1) (said items))) ∙ c.loop-part.invariant

pub returns : goal.returns
returns c =
    let items = c.as_slice-part-items.result.now in
    let front = c.loop-part.numbers.items in
    listed_by c.args.word.now (sym c.eq.ensures ∙ c.if-eq.false) ∙ (sym c.loop-part.invariant ∙ (last_piece (λ ps. behind front (numbers_of ps)) items c.loop-part.part-index c.loop-part-test.false ∙ numbers_ended front))

pub returns-in_err-add_number : goal.returns-in_err-add_number
returns-in_err-add_number c =
    let p = err_from_is_err_and c.from_residual-in_err-add_number.result c.from_residual-in_err-add_number.ensures.1 in
    let items = c.as_slice-part-items.result.now in
    let front = c.loop-part.numbers.items in
    rw (p.1, p.2) (is_err (λ (v : Vec ℕ Global). v.items) _ _ (elim c.in_err-add_number.ensures.err [
      | inl memory ↦ inl memory
      | inr none ↦ inr (listed_by c.args.word.now (sym c.eq.ensures ∙ c.if-eq.false) ∙ (sym c.loop-part.invariant
          ∙ (next_piece (λ ps. behind front (numbers_of ps)) items c.loop-part.part-index c.loop-part-test.true ∙ ap (behind front) (none (drop (c.loop-part.part-index + 1) (said items))))))
    ]))
