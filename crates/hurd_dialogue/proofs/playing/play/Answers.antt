use Rattle.std.proofs.Common.{arith, inl, inr, refl}
use Rattle.std.proofs.lemmas.Result.{err_from_is_err_and}
use Rattle.hurd_dialogue.proofs.Printed.{all_printed, front_printed, none_printed, one_less, part_cut, part_printed}
use Rattle.hurd_dialogue.proofs.playing.play.Goals as goal

pub loop-answer-init : goal.loop-answer-init
loop-answer-init g c = none_printed _ (g.T.Telling.way c.args.telling.now).left

pub loop-answer-smaller : goal.loop-answer-smaller
loop-answer-smaller g c =
    let goes = rw c.in-Some.is at c.in_ok-answer.ensures.goes in
    let less = one_less (g.T.Telling.way c.loop-answer.telling) (g.T.Telling.way c.next.new.self) c.in-Some.answer goes in
    omega (arith, less)

pub loop-answer-preserved-in_ok-print : goal.loop-answer-preserved-in_ok-print
loop-answer-preserved-in_ok-print g c =
    let goes = rw c.in-Some.is at c.in_ok-answer.ensures.goes in
    let printed = rw (c.as_slice.ensures.value, c.in_ok-text.ensures) at c.in_ok-print.ensures.ok.0 in
    part_printed _ _ _ (g.T.Telling.way c.loop-answer.telling) c.loop-answer.invariant (g.T.Telling.way c.next.new.self) c.in-Some.answer goes _ printed

pub loop-answer-preserved : goal.loop-answer-preserved
loop-answer-preserved g c =
    let goes = rw c.in-Some.is at c.in_ok-answer.ensures.goes in
    let printed = rw (c.as_slice.ensures.value, c.in_ok-text.ensures) at c.in_ok-print.ensures.ok.0 in
    part_printed _ _ _ (g.T.Telling.way c.loop-answer.telling) c.loop-answer.invariant (g.T.Telling.way c.next.new.self) c.in-Some.answer goes _ printed

pub returns-in_err-answer-clause-err : goal.returns-in_err-answer-clause-err
returns-in_err-answer-clause-err g c =
    let p = err_from_is_err_and c.from_residual.result c.from_residual.ensures.1 in
    rw (p.1, p.2) (inr refl, front_printed _ _ _ (g.T.Telling.way c.loop-answer.telling) c.loop-answer.invariant)

pub returns-in_err-text-clause-err : goal.returns-in_err-text-clause-err
returns-in_err-text-clause-err g c =
    let p = err_from_is_err_and c.from_residual-in_err-text.result c.from_residual-in_err-text.ensures.1 in
    rw (p.1, p.2) (inr refl, front_printed _ _ _ (g.T.Telling.way c.loop-answer.telling) c.loop-answer.invariant)

pub returns-in_err-print-clause-err : goal.returns-in_err-print-clause-err
returns-in_err-print-clause-err g c =
    let p = err_from_is_err_and c.from_residual-in_err-print.result c.from_residual-in_err-print.ensures.1 in
    let goes = rw c.in-Some.is at c.in_ok-answer.ensures.goes in
    let failed = c.in_err-print.ensures.err in
    let cut = rw (c.as_slice.ensures.value, c.in_ok-text.ensures) at failed.2 in
    rw (p.1, p.2) (inl (failed.0, failed.1), part_cut _ _ _ (g.T.Telling.way c.loop-answer.telling) c.loop-answer.invariant (g.T.Telling.way c.next.new.self) c.in-Some.answer goes _ cut)

pub returns-clause-ok : goal.returns-clause-ok
returns-clause-ok g c =
    let goes = rw c.in_default.is at c.in_ok-answer.ensures.goes in
    all_printed _ _ _ (g.T.Telling.way c.loop-answer.telling) c.loop-answer.invariant (g.T.Telling.way c.next.new.self) goes
