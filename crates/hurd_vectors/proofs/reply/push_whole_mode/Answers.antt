use Rattle.std.proofs.Common.{[], ◌∷◌, codes}
use Rattle.hurd_words.specs.Printing.{six_octal_digits}
use Rattle.hurd_lists.specs.Replies.{high_digits}
use Rattle.hurd_vectors.specs.Replies.{mode_text}
use Rattle.hurd_vectors.proofs.PieceLemmas.{four_are}
use Rattle.hurd_vectors.proofs.reply.push_whole_mode.Goals as goal

pub returns : goal.returns
unfolding mode_text
returns c =
    four_are c.args.text.now.items c.extend_from_slice.new.self.items c.push_high_digits.new.text.items c.push_mode.new.line.items c.push.new.self.items
    (codes ", \"mode\": \"") (high_digits c.args.mode.0) (six_octal_digits c.args.mode.0) (34 ∷ []) c.in_ok-extend_from_slice.ensures.items
    (rw c.bits.ensures at c.in_ok-push_high_digits.ensures) c.in_ok-push_mode.ensures c.in_ok-push.ensures.items
