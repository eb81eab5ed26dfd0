use Rattle.hurd_sitting.proofs.TextLaws.{texts_one}
use Rattle.hurd_sitting.proofs.laws.texts_are_one.Goals as goal

pub returns : goal.returns
returns c = texts_one
