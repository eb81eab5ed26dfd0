use Rattle.std.proofs.Common.{◌∙◌, sym}
use Rattle.hurd_vectors.proofs.TaskLemmas.{other, skipped, task_told}
use Rattle.hurd_vectors.proofs.header.push_task.Goals as goal

pub returns-then-is_skipped : goal.returns-then-is_skipped
returns-then-is_skipped c = λ lines. skipped c.args.text.now.items c.args.first c.args.line.now lines (sym c.is_skipped.ensures ∙ c.if-is_skipped.true)

pub returns-then-not-is_task : goal.returns-then-not-is_task
returns-then-not-is_task c = λ lines.
    other c.args.text.now.items c.args.first c.args.line.now lines c.as_slice.result.now (sym c.is_skipped.ensures ∙ c.if-is_skipped.false) (c.as_slice.ensures.value ∙ c.in_ok-words.ensures)
    (sym c.is_task.ensures ∙ c.if-not-is_task.true)

pub returns : goal.returns
returns c = λ lines.
    task_told c.args.text.now.items c.push_ids.new.text.items c.args.first c.args.line.now lines c.as_slice.result.now (sym c.is_skipped.ensures ∙ c.if-is_skipped.false)
    (c.as_slice.ensures.value ∙ c.in_ok-words.ensures) (sym c.is_task.ensures ∙ c.if-not-is_task.false) (rw (c.as_slice-2.ensures.value ∙ sym c.as_slice.ensures.value) at c.in_ok-push_ids.ensures)
