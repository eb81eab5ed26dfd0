use Rattle.std.proofs.Common.{◌∙◌, add-one, arith, sym}
use Rattle.hurd_witnesses.proofs.ShownLaws.{none_left, other_here, same_more}
use Rattle.hurd_witnesses.proofs.shown.first_difference.Goals as goal

pub loop-at-preserved : goal.loop-at-preserved
loop-at-preserved c =
    let more = same_more c.args.one.now c.args.other.now c.loop-at.at (sym c.same_at.ensures ∙ c.if-not-same_at.false) in
    let before = c.loop-at.invariant in
    rw add-one (omega (arith, more, before))

pub returns-then-not-same_at : goal.returns-then-not-same_at
returns-then-not-same_at c =
    let here = other_here c.args.one.now c.args.other.now c.loop-at.at (sym c.same_at.ensures ∙ c.if-not-same_at.true) in
    let before = c.loop-at.invariant in
    omega (arith, here, before)

pub returns : goal.returns
returns c =
    let here = none_left c.args.one.now c.args.other.now c.loop-at.at c.loop-at-test.false in
    let before = c.loop-at.invariant in
    omega (arith, here, before)
