use Rattle.std.proofs.Common.{◌∙◌, ◌+◌, drop, refl, sym}
use Rattle.hurd_words.proofs.Loops.{last_piece, next_piece, piece_at}
use Rattle.hurd_words.specs.Reading.{said}
use Rattle.hurd_witnesses.proofs.SaidLaws.{read_on, said_none, said_now, skipped_over}
use Rattle.hurd_witnesses.proofs.hunt.said_lines.Goals.{then-not-is_skipped+in_ok-copied+in_ok-push, else-not-is_skipped}
use Rattle.hurd_witnesses.proofs.hunt.said_lines.Goals as goal

pub loop-line-preserved : goal.loop-line-preserved
loop-line-preserved c =
    let items = c.as_slice-line-items.result.now in
    let i = c.loop-line.line-index in
    let front = c.loop-line.said.items in
    let before = sym (next_piece (read_on front) items i c.loop-line-test.true) ∙ c.loop-line.invariant in
    elim c.if-not-is_skipped.branch [
      | then-not-is_skipped+in_ok-copied+in_ok-push w ↦
          said_now front _ (piece_at items i) (drop (i + 1) (said items)) before c.if-not-is_skipped.said.items (rw (w.said-is, sym w.in_ok-copied.ensures) w.in_ok-push.ensures.items) (sym c.is_skipped.ensures ∙ w.if-not-is_skipped.true)
      | else-not-is_skipped w ↦
          skipped_over front _ (piece_at items i) (drop (i + 1) (said items)) before c.if-not-is_skipped.said.items (rw w.said-is refl) (sym c.is_skipped.ensures ∙ w.if-not-is_skipped.false)
    ]

pub returns : goal.returns
returns c =
    let i = c.loop-line.line-index in
    sym (last_piece (read_on c.loop-line.said.items) c.as_slice-line-items.result.now i c.loop-line-test.false ∙ said_none c.loop-line.said.items) ∙ c.loop-line.invariant
