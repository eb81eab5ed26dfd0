use Rattle.hurd_client.proofs.OpeningLaws.{holding}
use Rattle.hurd_client.proofs.opening.Way.reauthenticated.Goals as goal

pub returns-in_ok-push-in-Ok-clause-turn : goal.returns-in_ok-push-in-Ok-clause-turn
returns-in_ok-push-in-Ok-clause-turn c = rw (c.onward.ensures, c.in-Ok.is) (holding _ _ _ c.in_ok-push-in-Ok.ensures.items)
