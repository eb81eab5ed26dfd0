-- What tasks are told that start the translator that a lookup came to, or give that up, where things have other names.
use Rattle.std.proofs.Common.{◌≡◌, ◌&&◌, not, is_some, ℕ, Bool, Result, Ok, Err, map, refl, ap, ◌∙◌}
use Rattle.hurd_machine.proofs.Common.{EBUSY, EDIED, ESRCH, Errno, Meaning, PendingStart, World, active_at}
use Rattle.hurd_machine.specs.Renamed.{OtherNames, header_renamed, renamed, start_renamed, task_renamed}
use Rattle.hurd_machine.proofs.RenamedHandles.{on_header-renamed}
use Rattle.hurd_machine.proofs.RenamedNodes.{active_at-renamed, is_some-mapped}
use Rattle.hurd_machine.proofs.RenamedPlans.{answer_renamed, answered-renamed, first-renamed, given-renamed, on-renamed}
use Rattle.hurd_machine.proofs.RenamedTasks.{pending_of-renamed, task_at-renamed}
use Rattle.hurd_lookup.specs.Lent.{lent}
use Rattle.hurd_fsys.specs.Starting.{Startup, pending_asks, plan_start_failed, plan_startup, same_words, start_aims, started, startup_asks, waiting_asks}
use Rattle.hurd_laws.proofs.AimsRenamed.{ResolvesRenamed, aims_asks-renamed}
use Rattle.hurd_laws.proofs.CoreRenamed.{naming_asks-renamed}

module _ (f : OtherNames) where
  -- what a start finds with other names, where the task has made no more
  abbrev pub startup_renamed : Startup → Startup
  startup_renamed a = record { header = header_renamed f.to a.header; targets = map f.to a.targets; task = task_renamed f.to 0 a.task }

  module _ (w : World) where
    pub pending_asks-renamed : (t : ℕ) → pending_asks (renamed f w) t ≡ answer_renamed (start_renamed f.to) (pending_asks w t)
    pending_asks-renamed t = on-renamed (start_renamed f.to) (start_renamed f.to) ESRCH _ _ _ (pending_of-renamed f w t) (λ s. refl)

    -- start_failed
    pub start_failed_told : (t : ℕ) → (plan_start_failed (renamed f w) t).reply ≡ (plan_start_failed w t).reply
    start_failed_told t = answered-renamed (start_renamed f.to) _ _ _ (pending_asks-renamed t) (λ s. refl)

    -- fsys_startup, where paths lead to the same nodes

    pub waiting_asks-renamed : (s : PendingStart) → waiting_asks (renamed f w) (start_renamed f.to s) ≡ answer_renamed (header_renamed f.to) (waiting_asks w s)
    waiting_asks-renamed s =
        on_header-renamed f w (header_renamed f.to) EDIED s.node _ _ (λ h.
        given-renamed (header_renamed f.to) EBUSY _ (ap (λ (there : Bool). not there && same_words h.passive s.words) (ap is_some (active_at-renamed f w s.node) ∙ is_some-mapped f.to (active_at w s.node))) refl)

    module _ (resolves : ResolvesRenamed f w) (t : ℕ) where
      pub start_aims-renamed : (m : Meaning) (owner : ℕ) → start_aims (renamed f w) t m owner ≡ answer_renamed (map f.to) (start_aims w t m owner)
      start_aims-renamed m owner = on-renamed (task_renamed f.to (f.more t)) (map f.to) ESRCH _ _ _ (task_at-renamed f w t) (λ x. aims_asks-renamed f w resolves EBUSY (lent x.ids owner) m)

      module _ (none : f.more t ≡ 0) (m : Meaning) where
        pub startup_asks-renamed : (s : PendingStart) → startup_asks (renamed f w) t m (start_renamed f.to s) ≡ answer_renamed startup_renamed (startup_asks w t m s)
        startup_asks-renamed s =
            first-renamed (header_renamed f.to) startup_renamed _ _ _ (waiting_asks-renamed s) (λ h.
            first-renamed (map f.to) startup_renamed _ _ _ (start_aims-renamed m h.owner) (λ ns.
            first-renamed (task_renamed f.to 0) startup_renamed _ _ _ (naming_asks-renamed f w t none 2) (λ x. refl)))

        pub started_told : (s : PendingStart) (found : Result Startup Errno) → (started t (start_renamed f.to s) m (answer_renamed startup_renamed found)).reply ≡ (started t s m found).reply
        started_told s (Ok a) = refl
        started_told s (Err e) = refl

        pub startup_told : (plan_startup (renamed f w) t m).reply ≡ (plan_startup w t m).reply
        startup_told = answered-renamed (start_renamed f.to) _ _ _ (pending_asks-renamed t) (λ s.
            ap (λ found. (started t (start_renamed f.to s) m found).reply) (startup_asks-renamed s) ∙ started_told s (startup_asks w t m s))
