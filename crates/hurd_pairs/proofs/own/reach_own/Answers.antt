use Rattle.std.proofs.Common.{◌∙◌, sym}
use Rattle.hurd_sight.specs.Reach.{among}
use Rattle.hurd_pairs.proofs.OwnLaws.{at_own, passed}
use Rattle.hurd_pairs.proofs.own.reach_own.Goals as goal

pub returns-then-have-clause-at : goal.returns-then-have-clause-at
returns-then-have-clause-at g c =
    let next = rw c.in-Some.is at c.task.ensures in
    at_own (among c.args.learners.now.tasks.items) (g.T.Telling.way c.loop-task.telling).left c.in-Some.task.0 (sym next) (sym c.have.ensures ∙ c.if-have.true)

pub loop-task-preserved-in_ok-_part : goal.loop-task-preserved-in_ok-_part
loop-task-preserved-in_ok-_part g c =
    let next = rw c.in-Some.is at c.task.ensures in
    (passed (among c.args.learners.now.tasks.items) (g.T.Telling.way c.loop-task.telling) (g.T.Telling.way c.next.new.self) c.in-Some.task.0 c.in_ok-_part._part (sym next) (sym c.have.ensures ∙ c.if-have.false)
    c.in_ok-_part.ensures.goes).0 ∙ c.loop-task.invariant

pub loop-task-preserved-in_ok-_part-2 : goal.loop-task-preserved-in_ok-_part-2
loop-task-preserved-in_ok-_part-2 g c =
    let next = rw c.in-Some.is at c.task.ensures in
    (passed (among c.args.learners.now.tasks.items) (g.T.Telling.way c.loop-task.telling) (g.T.Telling.way c.next.new.self) c.in-Some.task.0 c.in_ok-_part._part (sym next) (sym c.have.ensures ∙ c.if-have.false)
    c.in_ok-_part.ensures.goes).0 ∙ c.loop-task.invariant
