use Rattle.std.proofs.Common.{◌∙◌, sym}
use Rattle.hurd_pairs.specs.Differences.{SaysSeen, SaysTold}
use Rattle.hurd_pairs.specs.Moments.{TellOther, TellSame}
use Rattle.hurd_pairs.proofs.FirstLaws.{so_far_none}
use Rattle.hurd_pairs.proofs.StepLaws.{See, SeeNot, comparing_done, comparing_found, comparing_more, fewer_left}
use Rattle.hurd_pairs.proofs.comparing.compare.Goals as goal

pub steps-init : goal.steps-init
steps-init g c = record {
  seen = so_far_none (See c.args.learners.now.tasks.items) (SeeNot c.args.learners.now.tasks.items) (SaysSeen c.args.learners.now.tasks.items c.args.learners.now.sees.items) _ _;
  told = so_far_none TellSame TellOther SaysTold _ _;
}

pub returns-then-not-branch : goal.returns-then-not-branch
returns-then-not-branch g c = comparing_done _ _ _ _ (g.T.Telling.way c.steps.one) (g.T.Telling.way c.steps.two) c.steps.compared _ _ _ c.step.new.compared c.steps.invariant c.in_ok-step.ensures c.if-not-branch.true

pub returns-then-is_some-2 : goal.returns-then-is_some-2
returns-then-is_some-2 g c =
    comparing_found _ _ _ _ (g.T.Telling.way c.steps.one) (g.T.Telling.way c.steps.two) c.steps.compared _ _ _ c.step.new.compared c.steps.invariant c.in_ok-step.ensures (sym c.is_some.ensures ∙ c.if-is_some.true)
    (sym c.is_some-then-is_some.ensures ∙ c.if-is_some-2.true)

pub steps-preserved : goal.steps-preserved
steps-preserved g c = comparing_more _ _ _ _ (g.T.Telling.way c.steps.one) (g.T.Telling.way c.steps.two) c.steps.compared _ _ _ c.step.new.compared c.steps.invariant c.in_ok-step.ensures c.if-not-branch.false

pub steps-smaller : goal.steps-smaller
steps-smaller g c = fewer_left _ _ _ _ (g.T.Telling.way c.steps.one) (g.T.Telling.way c.steps.two) c.steps.compared _ _ _ c.step.new.compared c.steps.invariant c.in_ok-step.ensures c.if-not-branch.false
