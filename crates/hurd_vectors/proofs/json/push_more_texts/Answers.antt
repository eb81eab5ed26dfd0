use Rattle.std.proofs.Common.{◌≡◌, ◌∙◌, get_or, rules, sym}
use Rattle.hurd_vectors.proofs.JsonLemmas.{all_printed, next_printed, texts_in_turn}
use Rattle.hurd_vectors.proofs.json.push_more_texts.Goals as goal

pub loop-item-preserved : goal.loop-item-preserved
loop-item-preserved c =
    let here : c.item-item.result ≡ get_or c.args.items.now c.loop-item.item-index c.item-item.result = search rules in
    next_printed _ _ (texts_in_turn c.args.skip) _ _ c.args.items.now c.loop-item.item-index _ _ c.loop-item-test.true (c.as_slice.ensures ∙ here) c.in_ok-push_next_text.ensures ∙ c.loop-item.invariant

pub returns : goal.returns
returns c = sym (all_printed _ _ (texts_in_turn c.args.skip) _ c.args.items.now c.loop-item.item-index c.loop-item-test.false) ∙ c.loop-item.invariant
