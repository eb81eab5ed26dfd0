use Rattle.hurd_lessons.proofs.InSentences.{seen_in_sentences, taught_in_sentences}
use Rattle.hurd_lessons.proofs.laws.said_in_sentences.Goals as goal

pub returns-clause-taught : goal.returns-clause-taught
returns-clause-taught c = taught_in_sentences

pub returns-clause-seen : goal.returns-clause-seen
returns-clause-seen c = seen_in_sentences
