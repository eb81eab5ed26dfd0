use Rattle.std.proofs.Common.{arith}
use Rattle.hurd_dialogue.proofs.Printed.{one_less}
use Rattle.hurd_can.proofs.EachLaws.{each_same}
use Rattle.hurd_can.proofs.EndLaws.{left_first, left_next, left_none}
use Rattle.hurd_can.proofs.RecallLaws.{nowhere}
use Rattle.hurd_can.proofs.coulds.remember_all.Goals as goal

pub loop-answer-init : goal.loop-answer-init
loop-answer-init g c =
    left_first (g.T.Telling.way c.args.telling.now) c.args.last.now c.args.tasks.now c.args.all.now.items c.remember.new.all.items (rw (c.core.ensures, c.world.ensures) at c.in_ok-remember.ensures)

pub loop-answer-smaller : goal.loop-answer-smaller
loop-answer-smaller g c =
    let goes = rw c.in-Some.is at c.in_ok-_answer.ensures.goes in
    let less = one_less (g.T.Telling.way c.loop-answer.telling) (g.T.Telling.way c.next.new.self) c.in-Some._answer goes in
    omega (arith, less)

pub loop-answer-preserved-in_ok-remember-2 : goal.loop-answer-preserved-in_ok-remember-2
loop-answer-preserved-in_ok-remember-2 g c =
    let goes = rw c.in-Some.is at c.in_ok-_answer.ensures.goes in
    left_next (g.T.Telling.way c.args.telling.now) (g.T.Telling.way c.loop-answer.telling) (g.T.Telling.way c.next.new.self) c.in-Some._answer c.args.last.now c.args.tasks.now c.args.all.now.items
    c.loop-answer.all.items c.remember-in-Some.new.all.items goes (rw (c.core-in-Some.ensures, c.world-in-Some.ensures) at c.in_ok-remember-2.ensures) c.loop-answer.invariant

pub loop-answer-preserved : goal.loop-answer-preserved
loop-answer-preserved g c =
    let goes = rw c.in-Some.is at c.in_ok-_answer.ensures.goes in
    left_next (g.T.Telling.way c.args.telling.now) (g.T.Telling.way c.loop-answer.telling) (g.T.Telling.way c.next.new.self) c.in-Some._answer c.args.last.now c.args.tasks.now c.args.all.now.items
    c.loop-answer.all.items c.remember-in-Some.new.all.items goes (rw (c.core-in-Some.ensures, c.world-in-Some.ensures) at c.in_ok-remember-2.ensures) c.loop-answer.invariant

pub returns : goal.returns
returns g c =
    let goes = rw c.in_default.is at c.in_ok-_answer.ensures.goes in
    left_none (g.T.Telling.way c.args.telling.now) (g.T.Telling.way c.loop-answer.telling) c.args.last.now c.args.tasks.now c.args.all.now.items c.loop-answer.all.items goes.0
    (each_same _ (nowhere c.args.last.now c.args.tasks.now)) c.loop-answer.invariant
