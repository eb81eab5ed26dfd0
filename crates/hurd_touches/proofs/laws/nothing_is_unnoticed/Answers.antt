use Rattle.hurd_touches.proofs.UnnoticedLaws.{noted_nothing}
use Rattle.hurd_touches.proofs.laws.nothing_is_unnoticed.Goals as goal

pub returns : goal.returns
returns c = noted_nothing
