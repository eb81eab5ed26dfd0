use Rattle.hurd_words.proofs.TextLaws.{ended_by}
use Rattle.hurd_words.proofs.answers.lacks_newline.Goals as goal

pub returns-in-Some : goal.returns-in-Some
returns-in-Some c = ended_by _ _ c.in-Some.ensures.value
