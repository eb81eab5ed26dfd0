use Rattle.std.proofs.Common.{codes}
use Rattle.std.proofs.lemmas.Result.{on_ok_weaker}
use Rattle.hurd_witnesses.specs.Answers.{shown_answer}
use Rattle.hurd_witnesses.specs.Witnesses.{differ_text, labelled, replies_text}
use Rattle.hurd_witnesses.proofs.JoinLaws.{three_more}
use Rattle.hurd_witnesses.proofs.witness.push_replies.Goals as goal

pub returns : goal.returns
unfolding replies_text
returns c =
    let first = rw (c.as_slice.ensures.value, c.in_ok-first.ensures) at c.in_ok-push_labelled.ensures in
    let second = rw (c.as_slice-2.ensures.value, c.in_ok-second.ensures) at c.in_ok-push_labelled-2.ensures in
    let third = rw (c.eq-alike.ensures, c.as_slice-3.ensures.value, c.as_slice-4.ensures.value, c.in_ok-first.ensures, c.in_ok-second.ensures) at c.push_differ.ensures in
    on_ok_weaker c.push_differ.result
    (λ last. three_more c.args.text.now.items (labelled (codes "      before: ") (shown_answer c.args.before.now)) (labelled (codes "      after:  ") (shown_answer c.args.after.now))
    (differ_text c.args.before.now c.args.after.now) _ _ _ first second last) third
