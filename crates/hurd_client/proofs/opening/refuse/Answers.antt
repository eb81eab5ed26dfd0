use Rattle.std.proofs.Common.{refl}
use Rattle.hurd_client.proofs.OpeningLaws.{holding}
use Rattle.hurd_client.proofs.opening.refuse.Goals.{in-Normal+in_ok-push-in-Normal, in-Reauth+in_ok-push-in-Reauth, in-Magical}
use Rattle.hurd_client.proofs.opening.refuse.Goals as goal

pub returns-clause-step : goal.returns-clause-step
returns-clause-step c = λ opener.
    elim c.match-retry.branch [
      | in-Normal+in_ok-push-in-Normal w ↦ rw (w.held-is, w.in-Normal.is) (holding _ _ _ w.in_ok-push-in-Normal.ensures.items)
      | in-Reauth+in_ok-push-in-Reauth w ↦ rw (w.held-is, w.in-Reauth.is) (holding _ _ _ w.in_ok-push-in-Reauth.ensures.items)
      | in-Magical w ↦ rw (w.held-is, w.in-Magical.is) refl
    ]
