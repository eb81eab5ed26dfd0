-- All that was printed is told, or why there is nothing.
use Rattle.std.proofs.Common.{Some}
use Rattle.hurd_program.specs.Requests.{asked}
use Rattle.hurd_program.proofs.Answers.{tells_all, tells_why}
use Rattle.hurd_program.proofs.answering.answer_text.Goals as goal

pub returns-in-Ok : goal.returns-in-Ok
returns-in-Ok c =
    tells_all (asked c.args.request.now) c.args.text.now c.new-output.result.writer.items c.done.new.output.writer.items (rw c.new-output.ensures c.new.ensures.items) c.in-Ok.ensures.adds

pub returns-in-Ok-reason : goal.returns-in-Ok-reason
returns-in-Ok-reason c =
    tells_why (asked c.args.request.now) c.args.text.now c.in-Ok-reason.told.items (Some c.new-output.result.writer.items) (Some c.done.new.output.writer.items) c.in-Err.fault c.in-Err.ensures.adds c.in-Ok-reason.ensures
