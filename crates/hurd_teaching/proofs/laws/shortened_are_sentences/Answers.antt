use Rattle.hurd_teaching.proofs.LimitLaws as law
use Rattle.hurd_teaching.proofs.laws.shortened_are_sentences.Goals as goal

pub returns : goal.returns
returns c = law.shortened_are_sentences
