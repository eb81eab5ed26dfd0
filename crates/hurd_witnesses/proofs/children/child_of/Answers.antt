use Rattle.std.proofs.Common.{◌≡◌, ◌∙◌, ◌+◌, IfOk, List, drop, subst, sym, ℕ}
use Rattle.hurd_words.proofs.Loops.{next_piece, piece_at}
use Rattle.hurd_words.specs.Reading.{said}
use Rattle.hurd_witnesses.specs.Trials.{child_from}
use Rattle.hurd_witnesses.proofs.ChildLaws.{name_behind, name_here}
use Rattle.hurd_witnesses.proofs.children.child_of.Goals as goal

pub returns-then-is_name : goal.returns-then-is_name
returns-then-is_name c =
    let items = c.as_slice-word-items.result.now in
    let i = c.loop-word.word-index in
    let before = sym (next_piece (child_from c.loop-word.seek) items i c.loop-word-test.true) ∙ c.loop-word.invariant in
    let here = sym (name_here c.loop-word.seek (piece_at items i) (drop (i + 1) (said items)) (sym c.is_name.ensures ∙ c.if-is_name.true)) ∙ before in
    subst (λ (n : List ℕ). IfOk c.copied.result (λ name. name ≡ n)) (c.in_ok-part_at.ensures ∙ here) c.copied.ensures

pub loop-word-preserved : goal.loop-word-preserved
loop-word-preserved c =
    let items = c.as_slice-word-items.result.now in
    let i = c.loop-word.word-index in
    let before = sym (next_piece (child_from c.loop-word.seek) items i c.loop-word-test.true) ∙ c.loop-word.invariant in
    let behind = sym (name_behind c.loop-word.seek (piece_at items i) (drop (i + 1) (said items)) (sym c.is_name.ensures ∙ c.if-is_name.false)) ∙ before in
    rw c.next_seek-seek.ensures behind
