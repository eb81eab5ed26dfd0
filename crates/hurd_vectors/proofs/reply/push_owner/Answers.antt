use Rattle.hurd_vectors.specs.Replies.{owner_text}
use Rattle.hurd_vectors.proofs.PieceLemmas.{four_printed}
use Rattle.hurd_vectors.proofs.reply.push_owner.Goals as goal

pub returns : goal.returns
unfolding owner_text
returns c =
    four_printed c.push_decimal-2.result _ _ _ _ _ _ _ _ _ c.in_ok-extend_from_slice.ensures.items (rw c.from.ensures at c.in_ok-push_decimal.ensures) c.in_ok-extend_from_slice-2.ensures.items (rw c.from-2.ensures at c.push_decimal-2.ensures)
