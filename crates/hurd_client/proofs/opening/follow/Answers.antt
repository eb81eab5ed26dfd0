use Rattle.hurd_client.proofs.OpeningLaws.{holding}
use Rattle.hurd_client.proofs.opening.follow.Goals as goal

pub returns-in_ok-push-in-Normal-clause-step : goal.returns-in_ok-push-in-Normal-clause-step
returns-in_ok-push-in-Normal-clause-step c = rw c.in-Normal.is (λ opener. holding _ _ _ c.in_ok-push-in-Normal.ensures.items)

pub returns-in_ok-push-in-Reauth-clause-step : goal.returns-in_ok-push-in-Reauth-clause-step
returns-in_ok-push-in-Reauth-clause-step c = rw c.in-Reauth.is (λ opener. holding _ _ _ c.in_ok-push-in-Reauth.ensures.items)
