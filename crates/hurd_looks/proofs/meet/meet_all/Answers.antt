use Rattle.std.proofs.Common.{refl}
use Rattle.hurd_looks.proofs.MeetLaws.{before_done, before_next, before_none, before_stops, got_at, other_length}
use Rattle.hurd_looks.proofs.meet.meet_all.Goals as goal

pub returns-then-some-others : goal.returns-then-some-others
returns-then-some-others g c = other_length g.T.Meet.renamed c.args.some.now c.args.others.now c.if-some-others.true c.args.pairs.now c.args.pairs.now

pub loop-i-init : goal.loop-i-init
loop-i-init g c = before_none g.T.Meet.renamed c.args.some.now c.args.others.now c.args.pairs.now c.args.pairs.now refl

pub returns-then-not-branch : goal.returns-then-not-branch
returns-then-not-branch g c =
    before_stops g.T.Meet.renamed c.loop-i.i c.args.some.now c.args.others.now _ _
    (got_at c.args.some.now c.loop-i.i _ c.loop-i-test.true c.index-some-i.is) (got_at c.args.others.now c.loop-i.i _ (rw c.if-some-others.false at c.loop-i-test.true) c.index-others-i.is) c.if-some-others.false
    c.args.pairs.now c.loop-i.pairs _ c.meet.new.pairs c.if-not-branch.true c.loop-i.invariant c.in_ok-meet.ensures

pub loop-i-preserved : goal.loop-i-preserved
loop-i-preserved g c =
    before_next g.T.Meet.renamed c.loop-i.i c.args.some.now c.args.others.now _ _
    (got_at c.args.some.now c.loop-i.i _ c.loop-i-test.true c.index-some-i.is) (got_at c.args.others.now c.loop-i.i _ (rw c.if-some-others.false at c.loop-i-test.true) c.index-others-i.is)
    c.args.pairs.now c.loop-i.pairs _ c.meet.new.pairs c.if-not-branch.false c.loop-i.invariant c.in_ok-meet.ensures

pub returns : goal.returns
returns g c = before_done g.T.Meet.renamed c.loop-i.i c.args.some.now c.args.others.now c.loop-i-test.false c.if-some-others.false c.args.pairs.now c.loop-i.pairs c.loop-i.invariant
