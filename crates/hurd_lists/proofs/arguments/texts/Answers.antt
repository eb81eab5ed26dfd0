use Rattle.std.proofs.Common.{◌≡◌, ◌++◌, ◌∷◌, [], Bor, List, ℕ, get_or, rules, ◌∙◌, sym, ap, arith, Vec, Global}
use Rattle.std.proofs.lemmas.Result.{err_from_is_err_and}
use Rattle.hurd_words.specs.Reading.{said}
use Rattle.hurd_lists.specs.Arguments.{bytes_of}
use Rattle.hurd_lists.proofs.ArgumentLemmas.{not_found, text_refused, text_taken, texts_ended}
use Rattle.hurd_lists.proofs.arguments.texts.Goals as goal

pub loop-word-preserved : goal.loop-word-preserved
loop-word-preserved c =
    let words = c.args.words.now in
    let i = c.loop-word.word-index in
    let here : c.word-item.result ≡ get_or words i c.word-item.result = search rules in
    let read : bytes_of (get_or words i c.word-item.result) ≡ _ = ap bytes_of (sym here) ∙ (ap bytes_of (sym c.as_slice.ensures) ∙ c.in_ok-behind_equals.ensures) in
    let pushed : c.push.new.self.items ≡ c.loop-word.texts.items ++ c.in_ok-behind_equals.field-0 ∷ [] = grind arith in
    text_taken c.loop-word.texts.items words i c.word-item.result c.loop-word-test.true _ c.in_ok-behind_equals.field-0 read pushed ∙ c.loop-word.invariant

pub returns : goal.returns
returns c = sym c.loop-word.invariant ∙ texts_ended c.loop-word.texts.items c.args.words.now c.loop-word.word-index c.loop-word-test.false

pub returns-in_err-behind_equals : goal.returns-in_err-behind_equals
returns-in_err-behind_equals c =
    let p = err_from_is_err_and c.from_residual.result c.from_residual.ensures.1 in
    let words = c.args.words.now in
    let i = c.loop-word.word-index in
    let here : c.word-item.result ≡ get_or words i c.word-item.result = search rules in
    let same : c.as_slice.result.now ≡ get_or words i c.word-item.result = c.as_slice.ensures ∙ here in
    rw (p.1, p.2) (not_found {X = Bor (List ℕ)} (λ b. b.now) (λ (texts : Vec (Bor (List ℕ)) Global). said texts.items) _ _ _ (λ none.
    sym c.loop-word.invariant ∙ text_refused c.loop-word.texts.items words i c.word-item.result c.loop-word-test.true (ap bytes_of (sym same) ∙ none)) c.in_err-behind_equals.ensures)
