use Rattle.hurd_touches.proofs.UnnoticedLaws.{noted_call}
use Rattle.hurd_touches.proofs.laws.noted_calls_are_unnoticed.Goals as goal

pub returns : goal.returns
returns c = noted_call
