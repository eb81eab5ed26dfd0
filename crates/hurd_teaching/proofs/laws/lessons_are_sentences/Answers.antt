use Rattle.hurd_teaching.proofs.SayingLaws as law
use Rattle.hurd_teaching.proofs.laws.lessons_are_sentences.Goals as goal

pub returns : goal.returns
returns c = law.lessons_are_sentences
