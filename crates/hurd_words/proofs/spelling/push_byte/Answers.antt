use Rattle.std.proofs.Common.{◌++◌, List, ℕ, ap, ◌∙◌}
use Rattle.std.proofs.lemmas.Result.{on_ok_weaker}
use Rattle.hurd_words.proofs.SpellingLaws.{unjoined}
use Rattle.hurd_words.proofs.spelling.push_byte.Goals as goal

pub returns-else-is_joint : goal.returns-else-is_joint
returns-else-is_joint c =
    on_ok_weaker c.push_escaped.result (λ pushed. pushed ∙ ap (λ (t : List ℕ). c.args.text.now.items ++ t) (unjoined c.args.path c.args.byte c.if-is_joint.ensures)) c.push_escaped.ensures
