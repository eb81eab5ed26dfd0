use Rattle.std.proofs.Common.{◌∙◌, ◌+◌, drop, refl, sym}
use Rattle.hurd_words.proofs.Loops.{last_piece, next_piece, piece_at}
use Rattle.hurd_words.specs.Reading.{said}
use Rattle.hurd_pairs.proofs.NumberLaws.{numbers_none, read_on, said_now, skipped_over}
use Rattle.hurd_pairs.proofs.lines.said_lines.Goals.{then-not-is_skipped+in_ok-push, else-not-is_skipped}
use Rattle.hurd_pairs.proofs.lines.said_lines.Goals as goal

pub loop-index-preserved : goal.loop-index-preserved
loop-index-preserved c =
    let items = c.as_slice-line-items.result.now in
    let i = c.loop-index.index in
    let front = c.loop-index.numbers.items in
    let before = sym (next_piece (read_on front (i + 1)) items i c.loop-index-test.true) ∙ c.loop-index.invariant in
    elim c.if-not-is_skipped.branch [
      | then-not-is_skipped+in_ok-push w ↦
          said_now front _ (i + 1) (piece_at items i) (drop (i + 1) (said items)) before c.if-not-is_skipped.numbers.items (rw w.numbers-is w.in_ok-push.ensures.items) (sym c.is_skipped.ensures ∙ w.if-not-is_skipped.true)
      | else-not-is_skipped w ↦
          skipped_over front _ (i + 1) (piece_at items i) (drop (i + 1) (said items)) before c.if-not-is_skipped.numbers.items (rw w.numbers-is refl) (sym c.is_skipped.ensures ∙ w.if-not-is_skipped.false)
    ]

pub returns : goal.returns
returns c =
    let i = c.loop-index.index in
    sym (last_piece (read_on c.loop-index.numbers.items (i + 1)) c.as_slice-line-items.result.now i c.loop-index-test.false ∙ numbers_none c.loop-index.numbers.items (i + 1)) ∙ c.loop-index.invariant
