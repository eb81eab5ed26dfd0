use Rattle.hurd_pictures.proofs.PlainLaws.{labels_are_plain}
use Rattle.hurd_pictures.proofs.laws.labels_are_plain.Goals as goal

pub returns : goal.returns
returns c = labels_are_plain
