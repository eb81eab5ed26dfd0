use Rattle.std.proofs.Common.{◌∙◌, ◌+◌, ◌++◌, drop, sym}
use Rattle.hurd_words.proofs.Loops.{next_piece, piece_at}
use Rattle.hurd_words.specs.Reading.{said}
use Rattle.hurd_teaching.proofs.LookLaws.{asks_from, look_read, said_read, skipped_read}
use Rattle.hurd_teaching.proofs.looks.asks.Goals.{then-is_look, else-is_look+then-not-is_skipped+in_ok-push-2, else-is_look+else-not-is_skipped}
use Rattle.hurd_teaching.proofs.looks.asks.Goals as goal

pub loop-line-preserved : goal.loop-line-preserved
loop-line-preserved c =
    let items = c.as_slice-line-items.result.now in
    let front = c.loop-line.asks.items in
    let line = piece_at items c.loop-line.line-index in
    let rest = drop (c.loop-line.line-index + 1) (said items) in
    let before = sym (next_piece (λ ps. front ++ asks_from c.loop-line.asked ps) items c.loop-line.line-index c.loop-line-test.true) ∙ c.loop-line.invariant in
    elim c.if-is_look.branch [
      | then-is_look w ↦
          look_read front c.if-is_look.asks.items c.loop-line.asked c.if-is_look.asked line rest _ before (let a = w.asks-is in cc) (let b = w.asked-is in cc) (sym c.is_look.ensures ∙ w.if-is_look.true)
      | else-is_look+then-not-is_skipped+in_ok-push-2 w ↦
          said_read front c.if-is_look.asks.items c.loop-line.asked c.if-is_look.asked line rest _ before (let a = w.asks-is in let more = w.in_ok-push-2.ensures.items in cc) (let b = w.asked-is in cc)
          (sym c.is_look.ensures ∙ w.if-is_look.false) (sym w.is_skipped.ensures ∙ w.if-not-is_skipped.true)
      | else-is_look+else-not-is_skipped w ↦
          skipped_read front c.if-is_look.asks.items c.loop-line.asked c.if-is_look.asked line rest _ before (let a = w.asks-is in cc) (let b = w.asked-is in cc)
          (sym c.is_look.ensures ∙ w.if-is_look.false) (sym w.is_skipped.ensures ∙ w.if-not-is_skipped.false)
    ]
