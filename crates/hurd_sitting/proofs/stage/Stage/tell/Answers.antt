use Rattle.std.proofs.Common.{◌∙◌, ap}
use Rattle.hurd_kinds.specs.Boxes.{box_meaning}
use Rattle.std.specs.Option.{is_some}
use Rattle.hurd_lists.specs.Lists.{listed_by}
use Rattle.hurd_machine.specs.Calls.{reply_by}
use Rattle.hurd_world.specs.Held.{world_of}
use Rattle.hurd_sitting.specs.Staged.{Staged}
use Rattle.hurd_sitting.proofs.ReplyLaws.{replied_tells, still_some}
use Rattle.hurd_sitting.proofs.stage.Stage.tell.Goals as goal

pub returns-clause-ok : goal.returns-clause-ok
returns-clause-ok c =
    let call = listed_by box_meaning c.args.listed in
    let reply = reply_by box_meaning c.in_ok-reply.field-0.reply in
    let replies = c.in_ok-reply.ensures.replies in
    let watched = c.is_some-watched.ensures ∙ (still_some (λ v. v.value) c.self.inside.learners ∙ ap is_some (ap (λ (s : Staged). s.learners) c.self.view_is)) in
    let is = rw (watched, c.in_ok-line.ensures, c.as_slice.ensures) at c.in_ok-text.ensures in
    record {
      reply = replies.reply;
      adds = (c.in_ok-text.text.items, replied_tells c.args.self.now.learners call (world_of box_meaning c.args.self.now.world) reply _ _ replies.reply replies.told is, rw c.as_slice-2.ensures.value at c.in_ok-extend_from_slice.ensures.items);
      leaves = replies.leaves;
    }
