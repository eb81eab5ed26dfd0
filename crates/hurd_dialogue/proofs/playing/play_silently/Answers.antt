use Rattle.std.proofs.Common.{◌∙◌, arith}
use Rattle.hurd_dialogue.proofs.EndLaws.{at_end, end_stays}
use Rattle.hurd_dialogue.proofs.Printed.{one_less}
use Rattle.hurd_dialogue.proofs.playing.play_silently.Goals as goal

pub loop-answer-smaller : goal.loop-answer-smaller
loop-answer-smaller g c =
    let goes = rw c.in-Some.is at c.in_ok-_answer.ensures.goes in
    let less = one_less (g.T.Telling.way c.loop-answer.telling) (g.T.Telling.way c.next.new.self) c.in-Some._answer goes in
    omega (arith, less)

pub loop-answer-preserved-in-Some : goal.loop-answer-preserved-in-Some
loop-answer-preserved-in-Some g c =
    let goes = rw c.in-Some.is at c.in_ok-_answer.ensures.goes in
    end_stays (g.T.Telling.way c.loop-answer.telling) (g.T.Telling.way c.next.new.self) c.in-Some._answer goes ∙ c.loop-answer.invariant

pub loop-answer-preserved : goal.loop-answer-preserved
loop-answer-preserved g c =
    let goes = rw c.in-Some.is at c.in_ok-_answer.ensures.goes in
    end_stays (g.T.Telling.way c.loop-answer.telling) (g.T.Telling.way c.next.new.self) c.in-Some._answer goes ∙ c.loop-answer.invariant

pub returns : goal.returns
returns g c =
    let goes = rw c.in_default.is at c.in_ok-_answer.ensures.goes in
    at_end (g.T.Telling.way c.loop-answer.telling) (g.T.Telling.way c.next.new.self) goes ∙ c.loop-answer.invariant
