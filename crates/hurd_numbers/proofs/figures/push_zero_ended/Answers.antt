use Rattle.std.proofs.Common.{◌≡◌, ◌∙◌, ap, get_or, rules}
use Rattle.std.specs.Prelude.{◌++◌, ◌∷◌, [], ℕ, List}
use Rattle.hurd_numbers.proofs.WordLemmas.{word_next, words_ended}
use Rattle.hurd_numbers.proofs.figures.push_zero_ended.Goals as goal

pub loop-word-preserved : goal.loop-word-preserved
loop-word-preserved c =
    let here : c.word-item.result ≡ get_or c.args.words.now c.loop-word.word-index c.word-item.result = search rules in
    let added = c.in_ok-push.ensures.items ∙ ap (λ (l : List ℕ). l ++ 0 ∷ []) (c.in_ok-extend_from_slice.ensures.items ∙ ap (λ (l : List ℕ). c.loop-word.text.items ++ l) (c.as_slice.ensures ∙ here)) in
    word_next _ c.loop-word.text.items _ c.args.words.now c.loop-word.word-index c.word-item.result c.loop-word-test.true added c.loop-word.invariant

pub returns : goal.returns
returns c = words_ended c.loop-word.text.items _ c.args.words.now c.loop-word.word-index c.loop-word-test.false c.loop-word.invariant
