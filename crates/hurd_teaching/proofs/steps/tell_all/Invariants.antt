use Rattle.std.proofs.Common.{length}
use Rattle.hurd_machine.specs.Sound.{Sound}
use Rattle.hurd_teaching.specs.Learners.{speech}
use Rattle.hurd_teaching.proofs.Following.{Following}
use Rattle.hurd_teaching.proofs.steps.tell_all.Given as goal

-- of what is told of all parts, what is told of those before the ones that are left was printed; and the world hangs together
abbrev pub invariant-steps : goal.invariant-steps
invariant-steps g l = record {
  told : Following l.fn.most l.fn.learners.tasks.items (speech l.fn.learners) (g.T.Telling.way l.fn.telling) l.fn.tally (g.W.Write.contents l.fn.output.writer)
      (g.T.Telling.way l.telling) l.watch.seen l.tally (g.W.Write.contents l.output.writer);
  sound : Sound (g.T.Telling.way l.telling).world;
}

abbrev pub decreases-steps : goal.decreases-steps
decreases-steps g l = length (g.T.Telling.way l.telling).left
