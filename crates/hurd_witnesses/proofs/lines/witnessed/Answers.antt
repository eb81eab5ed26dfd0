use Rattle.std.proofs.Common.{◌∙◌, ◌+◌, ◌==◌, drop, length, sym}
use Rattle.hurd_words.proofs.Loops.{last_piece, next_piece, piece_at}
use Rattle.hurd_words.specs.Reading.{said}
use Rattle.hurd_witnesses.proofs.LineLaws.{made_more, read_on, said_more, said_none}
use Rattle.hurd_witnesses.proofs.lines.witnessed.Goals as goal

pub loop-line-preserved : goal.loop-line-preserved
loop-line-preserved g c =
    let items = c.as_slice-line-items.result.now in
    let i = c.loop-line.line-index in
    let front = c.loop-line.text.items in
    let made = c.loop-line.made in
    let line = piece_at items i in
    let before = sym (next_piece (read_on g.T.Telling.sort c.args.hunt.now made front front) items i c.loop-line-test.true) ∙ c.loop-line.invariant.0 in (
      said_more g.T.Telling.sort c.args.hunt.now made front _ line (drop (i + 1) (said items)) before c.push_told.new.text.items c.in_ok-push_told.ensures _ c.made_behind-made.ensures,
      made_more i made _ (length line == 0) c.loop-line.invariant.1 c.made_behind-made.ensures,
    )

pub returns : goal.returns
returns g c =
    let i = c.loop-line.line-index in
    let front = c.loop-line.text.items in
    let made = c.loop-line.made in
    sym (last_piece (read_on g.T.Telling.sort c.args.hunt.now made front front) c.as_slice-line-items.result.now i c.loop-line-test.false ∙ said_none g.T.Telling.sort c.args.hunt.now made front front) ∙ c.loop-line.invariant.0
