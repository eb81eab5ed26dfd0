use Rattle.std.proofs.Common.{◌∙◌, arith}
use Rattle.hurd_teaching.proofs.LimitLaws.{step_back, stop_at_none, stop_here}
use Rattle.hurd_teaching.proofs.limits.whole_lines.Goals.{then-loop-end-test+else-bytes-end-ne10, else-loop-end-test}
use Rattle.hurd_teaching.proofs.limits.whole_lines.Goals as goal

pub loop-end-preserved : goal.loop-end-preserved
loop-end-preserved c =
    let back = step_back c.args.bytes.now c.loop-end.end c.loop-end-test.true c.loop-end.invariant.within c.if-bytes-end-ne10.true in
    record { within = omega (arith, c.loop-end.invariant.within); same_rest = back ∙ c.loop-end.invariant.same_rest }

pub returns : goal.returns
returns c = elim c.loop-end-test.branch [
  | then-loop-end-test+else-bytes-end-ne10 w ↦
      stop_here c.args.bytes.now c.loop-end.end w.loop-end-test.true c.loop-end.invariant.within w.if-bytes-end-ne10.false ∙ c.loop-end.invariant.same_rest
  | else-loop-end-test w ↦ stop_at_none c.args.bytes.now c.loop-end.end w.loop-end-test.false ∙ c.loop-end.invariant.same_rest
]
