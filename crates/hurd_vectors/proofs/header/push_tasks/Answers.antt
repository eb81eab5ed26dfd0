use Rattle.std.proofs.Common.{◌∙◌, ◌+◌, drop, sym}
use Rattle.hurd_words.specs.Reading.{said}
use Rattle.hurd_vectors.proofs.TaskLemmas.{line_next, lines_ended}
use Rattle.hurd_vectors.proofs.header.push_tasks.Goals as goal

pub loop-line-preserved : goal.loop-line-preserved
loop-line-preserved c =
    line_next _ c.loop-line.text.items c.push_task.new.text.items c.loop-line.first c.in_ok-first.first c.args.lines.now c.loop-line.line-index c.loop-line-test.true
    (c.in_ok-first.ensures (drop (c.loop-line.line-index + 1) (said c.args.lines.now))) c.loop-line.invariant

pub returns : goal.returns
returns c = sym (lines_ended c.loop-line.text.items c.loop-line.first c.args.lines.now c.loop-line.line-index c.loop-line-test.false) ∙ c.loop-line.invariant
