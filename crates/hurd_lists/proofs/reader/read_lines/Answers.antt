use Rattle.std.proofs.Common.{drop, ◌+◌, ◌∙◌, sym}
use Rattle.hurd_words.specs.Reading.{said}
use Rattle.hurd_words.proofs.Loops.{last_piece, next_piece}
use Rattle.hurd_lists.specs.Lists.{read_from, said_by}
use Rattle.hurd_lists.proofs.ListLemmas.{line_not_read, read_ended, read_next}
use Rattle.hurd_lists.proofs.reader.read_lines.Goals as goal

pub loop-index-preserved : goal.loop-index-preserved
loop-index-preserved g c =
    let items = c.args.lines.now in
    let i = c.loop-index.index in
    let before = said_by g.S.Server.meaning c.loop-index.list in
    sym (next_piece (read_from (i + 1) before) items i c.loop-index-test.true ∙ read_next (i + 1) before (said_by g.S.Server.meaning c.take_line.new.self) _ (drop (i + 1) (said items)) c.in-Ok.ensures) ∙ c.loop-index.invariant

pub returns : goal.returns
returns g c =
    let i = c.loop-index.index in
    let before = said_by g.S.Server.meaning c.loop-index.list in
    sym c.loop-index.invariant ∙ (last_piece (read_from (i + 1) before) c.args.lines.now i c.loop-index-test.false ∙ read_ended (i + 1) before)

pub returns-in-Err : goal.returns-in-Err
returns-in-Err g c =
    let items = c.args.lines.now in
    let i = c.loop-index.index in
    let before = said_by g.S.Server.meaning c.loop-index.list in
    rw c.fault_at.ensures (line_not_read g.S.Server.meaning c.in-Err.fault (i + 1) before (said_by g.S.Server.meaning c.take_line.new.self) _ (drop (i + 1) (said items)) _
    (sym (next_piece (read_from (i + 1) before) items i c.loop-index-test.true) ∙ c.loop-index.invariant) c.in-Err.ensures)
