-- Words that are there, each after a space.
use Rattle.std.proofs.Common.{◌≡◌, ◌==◌, ◌++◌, ◌∷◌, [], List, ℕ, false, length, refl, append_assoc}
use Rattle.std.specs.Prelude.{codes}
use Rattle.hurd_words.specs.Spelling.{spelled_words}
use Rattle.hurd_lessons.specs.Seen.{passive_text}
use Rattle.hurd_lessons.proofs.seen_parts.push_passive.Goals as goal

words_there : (ws : List (List ℕ)) → false ≡ (length ws == 0) → passive_text ws ≡ codes " passive" ++ spelled_words ws
words_there [] h = absurd (cc)
words_there (w ∷ ws) h = refl

pub returns : goal.returns
returns c =
    rw (words_there c.args.passive.now c.if-is_empty.ensures, ← append_assoc c.args.words.now.items (codes " passive") (spelled_words c.args.passive.now)) (rw c.in_ok-extend_from_slice.ensures.items at c.push_spelled_words.ensures)
