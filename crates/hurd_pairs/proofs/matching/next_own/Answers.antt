use Rattle.std.proofs.Common.{◌∙◌, ap, arith, sym}
use Rattle.hurd_sight.specs.Reach.{among}
use Rattle.hurd_pairs.proofs.PairLaws.{end_at, own_passed, own_reached}
use Rattle.hurd_pairs.proofs.matching.next_own.Goals as goal

pub returns-then-have : goal.returns-then-have
returns-then-have c =
    let S = among c.args.learners.now.tasks.items in
    let own = sym (c.have.ensures ∙ ap S c.task.ensures) ∙ c.if-have.true in
    own_reached S c.args.commands.now c.args.from c.loop-at.at c.index-commands-at.result c.loop-at.invariant.0 c.loop-at-test.true c.index-commands-at.is own c.loop-at.invariant.1

pub loop-at-preserved : goal.loop-at-preserved
loop-at-preserved c =
    let S = among c.args.learners.now.tasks.items in
    let behind = c.loop-at.invariant.0 in
    let other = sym (c.have.ensures ∙ ap S c.task.ensures) ∙ c.if-have.false in
    (omega (arith, behind), own_passed S c.args.commands.now c.args.from c.loop-at.at c.index-commands-at.result c.loop-at-test.true c.index-commands-at.is other c.loop-at.invariant.1)

pub returns : goal.returns
returns c = end_at (among c.args.learners.now.tasks.items) c.args.commands.now c.args.from c.loop-at.at (c.loop-at.auto.at-end c.requires) c.loop-at-test.false c.loop-at.invariant.0 c.loop-at.invariant.1
