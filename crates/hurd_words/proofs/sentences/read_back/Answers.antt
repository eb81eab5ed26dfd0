use Rattle.hurd_words.proofs.ReadsBack.{reads_back}
use Rattle.hurd_words.proofs.SpellsBack.{spells_back}
use Rattle.hurd_words.proofs.sentences.read_back.Goals as goal

pub returns-clause-turns : goal.returns-clause-turns
returns-clause-turns c = reads_back

pub returns-clause-spelling : goal.returns-clause-spelling
returns-clause-spelling c = spells_back
