-- What was read is told; else that it can't be read is said.
use Rattle.hurd_calls.proofs.WayLaws.{lists_limited}
use Rattle.hurd_program.proofs.Ended.{exits_unread, exits_whole}
use Rattle.hurd_vectors.specs.Vectors.{vectors}
use Rattle.hurd_program.proofs.vectors.perform_vectors.Goals as goal

pub returns-in-Ok : goal.returns-in-Ok
returns-in-Ok g c =
    exits_whole vectors lists_limited c.args.file.now _ g.R.Read.remaining g.W.Write.contents g.E.Write.contents c.args.input.now c.read_text.new.input c.args.output.now
    c.tell_vectors.new.output c.args.errors.now c.tell_vectors.new.errors c.tell_vectors.result c.in-Ok.ensures.ok (rw c.as_slice.ensures at c.tell_vectors.ensures)

pub returns-in-Err : goal.returns-in-Err
returns-in-Err g c =
    exits_unread vectors c.args.file.now g.R.Read.remaining g.W.Write.contents g.E.Write.contents c.args.input.now c.read_text.new.input c.args.output.now c.args.errors.now
    c.finish.new.errors c.finish.result c.in-Err.fault c.in-Err.ensures.err c.finish.ensures.line c.finish.ensures.status
