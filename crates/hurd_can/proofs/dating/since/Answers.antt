use Rattle.std.proofs.Common.{arith}
use Rattle.hurd_dialogue.proofs.Printed.{one_less}
use Rattle.hurd_can.specs.Remembered.{row_of}
use Rattle.hurd_can.proofs.DatedLaws.{left_first, left_next, left_none}
use Rattle.hurd_can.proofs.dating.since.Goals as goal

pub loop-answer-init : goal.loop-answer-init
loop-answer-init g c =
    rw (c.since_then-since.ensures, c.told.ensures)
    (left_first (row_of c.args.last.now c.args.part) c.args.tasks.now c.args.part (g.T.Telling.way c.args.telling.now) c.in_ok-alike.alike (rw (c.core.ensures, c.world.ensures) at c.in_ok-alike.ensures))

pub loop-answer-smaller : goal.loop-answer-smaller
loop-answer-smaller g c =
    let goes = rw c.in-Some.is at c.in_ok-_answer.ensures.goes in
    let less = one_less (g.T.Telling.way c.loop-answer.telling) (g.T.Telling.way c.next.new.self) c.in-Some._answer goes in
    omega (arith, less)

pub loop-answer-preserved-in_ok-alike-2 : goal.loop-answer-preserved-in_ok-alike-2
loop-answer-preserved-in_ok-alike-2 g c =
    let goes = rw c.in-Some.is at c.in_ok-_answer.ensures.goes in
    rw (c.since_then-since-in-Some.ensures, c.told-in-Some.ensures)
    (left_next (row_of c.args.last.now c.args.part) c.args.tasks.now c.args.part (g.T.Telling.way c.args.telling.now) (g.T.Telling.way c.loop-answer.telling) (g.T.Telling.way c.next.new.self) c.in-Some._answer
    c.in_ok-alike-2.alike c.loop-answer.since goes (rw (c.core-in-Some.ensures, c.world-in-Some.ensures) at c.in_ok-alike-2.ensures) c.loop-answer.invariant)

pub loop-answer-preserved : goal.loop-answer-preserved
loop-answer-preserved g c =
    let goes = rw c.in-Some.is at c.in_ok-_answer.ensures.goes in
    rw (c.since_then-since-in-Some.ensures, c.told-in-Some.ensures)
    (left_next (row_of c.args.last.now c.args.part) c.args.tasks.now c.args.part (g.T.Telling.way c.args.telling.now) (g.T.Telling.way c.loop-answer.telling) (g.T.Telling.way c.next.new.self) c.in-Some._answer
    c.in_ok-alike-2.alike c.loop-answer.since goes (rw (c.core-in-Some.ensures, c.world-in-Some.ensures) at c.in_ok-alike-2.ensures) c.loop-answer.invariant)

pub returns : goal.returns
returns g c =
    let goes = rw c.in_default.is at c.in_ok-_answer.ensures.goes in
    left_none (row_of c.args.last.now c.args.part) c.args.tasks.now c.args.part (g.T.Telling.way c.args.telling.now) (g.T.Telling.way c.loop-answer.telling) c.loop-answer.since goes.0 c.loop-answer.invariant
