use Rattle.std.proofs.Common.{◌∙◌, ◌+◌, arith, drop, sym}
use Rattle.hurd_words.proofs.Loops.{next_piece, piece_at}
use Rattle.hurd_words.specs.Reading.{said}
use Rattle.hurd_teaching.proofs.LookLaws.{said_counted, said_from, skipped_over, start_reached}
use Rattle.hurd_teaching.proofs.looks.said_before.Goals.{then-not-is_skipped, else-not-is_skipped}
use Rattle.hurd_teaching.proofs.looks.said_before.Goals as goal

pub returns-then-is_start : goal.returns-then-is_start
returns-then-is_start c =
    let items = c.as_slice-line-items.result.now in
    let i = c.loop-line.line-index in
    let before = sym (next_piece (said_from c.loop-line.said) items i c.loop-line-test.true) ∙ c.loop-line.invariant.0 in
    start_reached c.loop-line.said (piece_at items i) (drop (i + 1) (said items)) _ before (sym c.is_start.ensures ∙ c.if-is_start.true)

pub loop-line-preserved : goal.loop-line-preserved
loop-line-preserved c =
    let items = c.as_slice-line-items.result.now in
    let i = c.loop-line.line-index in
    let few = c.loop-line.invariant.1 in
    let before = sym (next_piece (said_from c.loop-line.said) items i c.loop-line-test.true) ∙ c.loop-line.invariant.0 in
    let other = sym c.is_start.ensures ∙ c.if-is_start.false in
    elim c.if-not-is_skipped.branch [
      | then-not-is_skipped w ↦
          let now = w.said-is in (
            said_counted c.loop-line.said (piece_at items i) (drop (i + 1) (said items)) _ before c.if-not-is_skipped.said now other (sym c.is_skipped.ensures ∙ w.if-not-is_skipped.true),
            omega (arith, now, few),
          )
      | else-not-is_skipped w ↦
          let now = w.said-is in (
            skipped_over c.loop-line.said (piece_at items i) (drop (i + 1) (said items)) _ before c.if-not-is_skipped.said now other (sym c.is_skipped.ensures ∙ w.if-not-is_skipped.false),
            omega (arith, now, few),
          )
    ]
