use Rattle.std.proofs.Common.{◌≡◌, ◌∙◌, ap, not, subst, sym, true, true≢false}
use Rattle.hurd_kinds.specs.Boxes.{box_meaning}
use Rattle.hurd_laws.specs.Step.{reply_of}
use Rattle.hurd_lists.specs.Lists.{listed_by}
use Rattle.hurd_machine.specs.Sound.{Sound}
use Rattle.hurd_machine.specs.World.{World}
use Rattle.hurd_touches.specs.Touched.{listed}
use Rattle.hurd_calls.specs.Making.{after_call}
use Rattle.hurd_teaching.specs.Learners.{speech}
use Rattle.hurd_teaching.specs.Watched.{misses}
use Rattle.hurd_teaching.proofs.StepLaws.{kept_here}
use Rattle.hurd_teaching.proofs.UnmovedLaws.{still_sees}
use Rattle.hurd_sitting.proofs.ReplyLaws.{learned_by}
use Rattle.hurd_sitting.proofs.answering.replied_before.Goals.{then-not-quiet, else-not-quiet}
use Rattle.hurd_sitting.proofs.answering.replied_before.Goals as goal

-- if nothing that was touched was seen, what was seen is what these see now
pub said_if_moved-requires : goal.said_if_moved-requires
said_if_moved-requires c =
    elim c.if-not-quiet.branch [
      | then-not-quiet b ↦ λ is.
          let missed : misses (listed c.reply_by_words.new.world.noted) c.looked.new.watch.seen ≡ true = rw b.noted.ensures at (sym b.misses-unmoved.ensures ∙ (sym b.unmoved-is ∙ is)) in (
            b.if-not-quiet.true,
            still_sees _ _ _ _ _ _ (subst Sound (sym c.looked.ensures.world) c.requires.sound) c.in_ok-reply.ensures.noted
                (rw (← c.looked.ensures.world) at (c.in_ok-looked.ensures.sees b.if-not-quiet.true)) missed,
          )
      | else-not-quiet b ↦ λ is. absurd (true≢false (sym is ∙ (b.unmoved-is ∙ ap not b.if-not-quiet.false)))
    ]

pub returns-clause-replies : goal.returns-clause-replies
returns-clause-replies c =
    let call = listed_by box_meaning c.args.listed in
    let made = c.in_ok-reply.ensures.world ∙ ap (after_call call) c.looked.ensures.world in
    record {
      reply = c.in_ok-reply.ensures.reply ∙ ap (λ (w : World). reply_of w call.task.0 call.call) c.looked.ensures.world;
      told = learned_by c.args.learners.now call _ _ c.have-quiet.result c.looked.new.watch.seen c.said_if_moved.new.watch.seen c.in_ok-told.told c.have-quiet.ensures
          c.in_ok-looked.ensures.sees made c.in_ok-told.ensures;
      leaves = made;
    }

pub returns-clause-seen : goal.returns-clause-seen
returns-clause-seen c =
    kept_here c.args.learners.now.tasks.items (speech c.args.learners.now) _ c.have-quiet.result c.looked.new.watch.seen c.said_if_moved.new.watch.seen c.in_ok-told.told c.in_ok-told.ensures
