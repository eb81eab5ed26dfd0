use Rattle.std.proofs.Common.{codes}
use Rattle.std.proofs.lemmas.Result.{on_ok_weaker}
use Rattle.hurd_witnesses.specs.Witnesses.{labelled, replies_text}
use Rattle.hurd_witnesses.proofs.JoinLaws.{two_more}
use Rattle.hurd_witnesses.proofs.witness.push_shown.Goals as goal

pub returns : goal.returns
returns c =
    let first = rw c.as_slice.ensures at c.in_ok-push_labelled.ensures in
    on_ok_weaker c.push_replies.result
    (λ last. two_more c.args.text.now.items (labelled (codes "    try ") c.args.witness.now.trial) (replies_text c.args.witness.now.before c.args.witness.now.after) _ _ first last) c.push_replies.ensures
