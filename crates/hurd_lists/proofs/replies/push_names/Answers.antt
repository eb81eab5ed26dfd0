use Rattle.std.proofs.Common.{◌≡◌, ◌∙◌, get_or, rules, sym}
use Rattle.hurd_lists.proofs.ReplyLemmas.{names_ended, names_next}
use Rattle.hurd_lists.proofs.replies.push_names.Goals as goal

pub loop-name-preserved : goal.loop-name-preserved
loop-name-preserved c =
    let here : c.name-item.result ≡ get_or c.args.names.now c.loop-name.name-index c.name-item.result = search rules in
    names_next _ _ c.args.names.now c.loop-name.name-index _ c.name-item.result c.loop-name-test.true (c.as_slice.ensures ∙ here) c.in_ok-push_spaced.ensures ∙ c.loop-name.invariant

pub returns : goal.returns
returns c = sym (names_ended _ c.args.names.now c.loop-name.name-index c.loop-name-test.false) ∙ c.loop-name.invariant
