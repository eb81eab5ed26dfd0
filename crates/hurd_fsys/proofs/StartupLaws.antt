-- When starting a translator, or giving that up, answers, and leaves, what its plan says.
use Rattle.std.proofs.Common.{◌≡◌, ◌∙◌, ℕ, List, true, false, true≢false, Some, None, inl, inr, refl, sym, ap, subst}
use Rattle.std.specs.Prelude.{Result, Ok, Err, IsOk}
use Rattle.hurd_machine.proofs.Common.{Change, ESRCH, Errno, Header, Meaning, Name, PendingStart, Plan, Reply, Task, World, answered, apply_all, first, is_no_memory, naming_of, on, or_refuse, pending, pending_of, ports_of, task_of}
use Rattle.hurd_machine.specs.declared.call.Reply.TheVariants.{Done, Refused}
use Rattle.hurd_machine.specs.World.{nodes_of}
use Rattle.hurd_machine.specs.Plan.{Follows}
use Rattle.hurd_core.specs.Core.{Does, attaching, naming_asks}
use Rattle.hurd_core.proofs.CoreLaws.{naming-had, naming-refused}
use Rattle.hurd_core.proofs.PlanLaws.{follows-from, follows-refused, follows-then}
use Rattle.hurd_lookup.specs.Lacking.{TriedOr}
use Rattle.hurd_lookup.specs.Lent.{server_ids}
use Rattle.hurd_fsys.specs.Setting.{seat_on}
use Rattle.hurd_fsys.specs.Starting.{StartFinds, StartLacks, Startup, pending_asks, plan_start_failed, plan_startup, start_aims, started, startup_asks, waiting_asks}
use Rattle.hurd_fsys.proofs.StartingLaws.{Starter, starter, startable, startup_plain}

-- of a start that waits, targets that are found, and names that are left, to what is asked

module _ (w : World) (t : ℕ) (m : Meaning) (s : PendingStart) where
  pub waits_not : (e : Errno) → Err e ≡ waiting_asks w s → startup_asks w t m s ≡ Err e
  unfolding first
  waits_not e is = rw (← is) refl

  module _ (h : Header) (is : Ok h ≡ waiting_asks w s) where
    pub aims_not : (e : Errno) → start_aims w t m h.owner ≡ Err e → startup_asks w t m s ≡ Err e
    unfolding first
    aims_not e none = rw (← is, none) refl

    module _ (ns : List Name) (found : start_aims w t m h.owner ≡ Ok ns) where
      pub waits_full : (e : Errno) → Err e ≡ naming_of (ports_of w) t 2 → startup_asks w t m s ≡ Err e
      unfolding first
      waits_full e full = let none = naming-refused (nodes_of w) (ports_of w) t 2 e (sym full) in rw (← is, found, none) refl

      pub waits_free : (u : Unit {0}) → Ok u ≡ naming_of (ports_of w) t 2 → (x : Task) × (startup_asks w t m s ≡ Ok (record { header = h; targets = ns; task = x }))
      unfolding first
      waits_free u free = let x = naming-had (nodes_of w) (ports_of w) t 2 u (sym free) in (x.0, rw (← is, found, x.3) refl)

module _ (w : World) (t : ℕ) where
  -- it is to start nothing

  pub none_pending : None ≡ pending_of (ports_of w) t → pending_asks w t ≡ Err ESRCH
  unfolding on
  none_pending is = ap (λ o. on ESRCH o (λ (s : PendingStart). Ok s)) (sym is)

  pub starts_none : (m : Meaning) → None ≡ pending_of (ports_of w) t → Follows w (plan_startup w t m) (Refused ESRCH) w
  starts_none m is = follows-refused w (pending_asks w t) (λ s. started t s m (startup_asks w t m s)) ESRCH (none_pending is)

  -- it is to start something

  module _ (s : PendingStart) (is : Some s ≡ pending_of (ports_of w) t) where
    is_pending : pending_asks w t ≡ Ok s
    unfolding on
    is_pending = ap (λ o. on ESRCH o (λ (s : PendingStart). Ok s)) (sym is)

    start : Starter t w s
    start = starter t w s is_pending

    abbrev quiet : Plan
    quiet = record { reply = Done; changes = pending t None }

    -- what makes it start nothing any more
    unpended : (r : Reply) (y : World) → Follows w (answered (task_of (ports_of w) t) (λ x. quiet)) r y → Follows w quiet r y
    unpended r y h = follows-from w (task_of (ports_of w) t) (λ x. quiet) start.seat r y (ap (or_refuse ESRCH) start.is_task) h

    pub fails_some : (r : Reply) (y : World) → Follows w (answered (task_of (ports_of w) t) (λ x. quiet)) r y → Follows w (plan_start_failed w t) r y
    fails_some r y h = follows-then w (pending_asks w t) (λ s. quiet) s r y is_pending (unpended r y h)

    module _ (m : Meaning) where
      planned : (r : Result Startup Errno) → startup_asks w t m s ≡ r → plan_startup w t m ≡ started t s m r
      unfolding answered
      planned r asks = ap (λ (q : Result PendingStart Errno). answered q (λ s. started t s m (startup_asks w t m s))) is_pending ∙ ap (started t s m) asks

      abbrev tells : Unit {0} → Reply
      tells u = Done

      abbrev IsTried : Result (Unit {0}) Errno → World → Type 0
      IsTried r y = TriedOr (StartLacks w t m) w (plan_startup w t m) tells r y

      -- that is refused, and the task is to start nothing any more
      pub starts_refused : (e : Errno) (r : Reply) (y : World) → false ≡ is_no_memory e → StartFinds w t m s (Err e) → Follows w (answered (task_of (ports_of w) t) (λ x. quiet)) r y → IsTried (Err e) y
      starts_refused e r y other (inr lacks) h = absurd (true≢false (sym (ap is_no_memory lacks.0) ∙ sym other))
      starts_refused e r y other (inl asks) h = inl (subst (λ (P : Plan). Follows w P (Refused e) y) (sym (planned (Err e) asks)) (refl, (unpended r y h).1))

      -- memory was wanting for its targets
      pub starts_lacks : (e : Errno) → true ≡ is_no_memory e → StartFinds w t m s (Err e) → IsTried (Err e) w
      unfolding first
      starts_lacks e none (inl never) = absurd (true≢false (none ∙ startup_plain t m w s e never))
      starts_lacks e none (inr lacks) = inr (ap Err lacks.0, (refl, inr (lacks.1.0, waits_there lacks.1.1)))
        where
          waits_there : IsOk (waiting_asks w s) → IsOk (first (pending_asks w t) (waiting_asks w))
          waits_there there = subst (λ (r : Result PendingStart Errno). IsOk (first r (waiting_asks w))) (sym is_pending) there

      module _ (a : Startup) (asks : startup_asks w t m s ≡ Ok a) where
        abbrev comes : Task → List Change
        comes = attaching t (seat_on s.node a.header m None true) (server_ids a.header.owner) a.targets m

        naming : naming_asks w t 2 ≡ Ok a.task
        naming = (startable t m w s a asks).named

        does_planned : (r : Result (Unit {0}) Errno) (y : World) (u : Unit {0}) → Does w (naming_asks w t 2) comes (λ x. u) r y → TriedOr (StartLacks w t m) w (started t s m (Ok a)) tells r y
        does_planned (Ok v) y u d =
            let one : Ok a.task ≡ Ok d.0 = sym naming ∙ d.1 in
            let same : a.task ≡ d.0 = cc in
            inl (refl, d.3 ∙ ap (λ (x : Task). apply_all (comes x) w) (sym same))
        does_planned (Err e) y u d = elim d.1 [
          | inl refused ↦ absurd (cc (naming, refused))
          | inr lacks ↦ inr (ap Err lacks.0, (d.0, inl refl))
        ]

        -- the server comes
        pub starts_seated : (r : Result (Unit {0}) Errno) (y : World) (u : Unit {0}) → Does w (naming_asks w t 2) comes (λ x. u) r y → IsTried r y
        starts_seated r y u d = subst (λ (P : Plan). TriedOr (StartLacks w t m) w P tells r y) (sym (planned (Ok a) asks)) (does_planned r y u d)
