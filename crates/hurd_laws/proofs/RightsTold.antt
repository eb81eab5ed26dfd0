-- Replies of the calls on rights and ids tell no names.
use Rattle.std.proofs.Common.{◌≡◌, ℕ, refl}
use Rattle.hurd_machine.proofs.Common.{IdSets, World}
use Rattle.hurd_machine.specs.Renamed.{OtherNames, renamed, right_renamed, task_renamed}
use Rattle.hurd_machine.proofs.RenamedPlans.{answer_renamed, answered-renamed, first-renamed, given-renamed}
use Rattle.hurd_machine.proofs.RenamedTasks.{right_of-renamed, task_of-renamed}
use Rattle.hurd_rights.specs.Rights.{makeauth_asks, plan_deallocate, plan_makeauth, plan_receive, plan_send}
use Rattle.hurd_laws.proofs.CoreRenamed.{caller_renamed, receive_asks-renamed, send_asks-renamed}

module _ (f : OtherNames) (w : World) (t : ℕ) where
  pub deallocate_told : (p : ℕ) → (plan_deallocate (renamed f w) t p).reply ≡ (plan_deallocate w t p).reply
  deallocate_told p = answered-renamed (right_renamed f.to) _ _ _ (right_of-renamed f w t p) (λ r. refl)

  pub send_told : (p q : ℕ) → (plan_send (renamed f w) t p q).reply ≡ (plan_send w t p q).reply
  send_told p q = answered-renamed (right_renamed f.to) _ _ _ (send_asks-renamed f w t p q) (λ r. refl)

  pub receive_told : f.more t ≡ 0 → (plan_receive (renamed f w) t).reply ≡ (plan_receive w t).reply
  receive_told none = answered-renamed (caller_renamed f) _ _ _ (receive_asks-renamed f w t none) (λ x. refl)

  pub makeauth_asks-renamed : (ids : IdSets) → makeauth_asks (renamed f w) t ids ≡ answer_renamed (task_renamed f.to (f.more t)) (makeauth_asks w t ids)
  makeauth_asks-renamed ids = let other = task_renamed f.to (f.more t) in
      first-renamed other other _ _ _ (task_of-renamed f w t) (λ x. given-renamed other _ _ refl refl)

  pub makeauth_told : (ids : IdSets) → (plan_makeauth (renamed f w) t ids).reply ≡ (plan_makeauth w t ids).reply
  makeauth_told ids = answered-renamed (task_renamed f.to (f.more t)) _ _ _ (makeauth_asks-renamed ids) (λ x. refl)
