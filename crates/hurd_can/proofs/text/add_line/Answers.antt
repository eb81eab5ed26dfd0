use Rattle.hurd_can.proofs.ListLaws.{join_ok}
use Rattle.hurd_can.proofs.text.add_line.Goals as goal

pub returns : goal.returns
returns c =
    let head = rw (c.as_slice.ensures.value, c.in_ok-place.ensures, c.part_word-word.ensures, c.part.ensures, c.part-2.ensures) at c.in_ok-push_head.ensures in
    let tail = rw (c.as_slice-2.ensures.value, c.in_ok-helpers.ensures, c.as_slice-3.ensures.value, c.in_ok-before.ensures) at c.push_tail.ensures in
    join_ok _ _ _ _ _ c.push_tail.result head tail
