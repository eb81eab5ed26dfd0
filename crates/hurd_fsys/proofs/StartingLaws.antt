-- The laws of starting a translator, and of giving that up.
use Rattle.std.proofs.Common.{◌≡◌, ◌∙◌, ℕ, Bool, true, List, ◌++◌, map, Option, Some, None, not, is_some, ◌&&◌, refl, ap, subst, inl, inr}
use Rattle.std.specs.Prelude.{Result, Ok, Err}
use Rattle.hurd_machine.proofs.Common.{AttrOf, EBUSY, EDIED, ESRCH, Errno, GidOfTask, IsAmong, Meaning, Name, Nothing, Part, Pending, PendingStart, Seen, Sound, Start, Taken, Task, UidOfTask, World, active_at, asked_parts, can_name, fresh, header_at, pending_of, ports_of, start_of, task_at}
use Rattle.hurd_ports.specs.Tables.{pending_at}
use Rattle.hurd_machine.specs.declared.call.Reply.TheVariants.{Done}
use Rattle.hurd_machine.proofs.Asks.{IsPlain, IsPlainReply, first_ok, given_ok, on_ok, first_same, given_same, on_same, first_plain, given_plain, on_plain, ok_plain, answered_same, answered_plain, done_plain, refused_plain}
use Rattle.hurd_machine.proofs.CallLaws.{CallLaws, answered_piece, answered_whole}
use Rattle.hurd_machine.proofs.Frame.{Full}
use Rattle.hurd_machine.proofs.Opens.{own_task, fresh_new, later_new}
use Rattle.hurd_machine.proofs.Pending.{pends_whole, starts_whole}
use Rattle.hurd_machine.proofs.Views.{Agree, Agree-refl, same_tasks, header_same, active_same}
use Rattle.hurd_core.specs.Core.{naming_asks}
use Rattle.hurd_lookup.specs.Lent.{lent}
use Rattle.hurd_fsys.specs.Starting.{Startup, pending_asks, plan_start_failed, plan_startup, same_words, start_aims, started, startup_asks, touches_start_failed, touches_startup, waiting_asks}
use Rattle.hurd_fsys.proofs.AimsLaws.{Aims, aims_alike, aims_fit, aims_seen}
use Rattle.hurd_fsys.proofs.BegunLaws.{newcomer, begins, counted_task, naming_same, naming_plain}
use Rattle.hurd_machine.proofs.Piece.{Whole, stands}

-- what is asked first

module _ (t : ℕ) where
  -- a task that is to start something is there
  pub record Starter (w : World) (s : PendingStart) : Type 0 where
    pub seat : Task
    pub is_task : task_at w t ≡ Some seat
    pub is_pending : seat.pending ≡ Some s

  pub starter : (w : World) (s : PendingStart) → pending_asks w t ≡ Ok s → Starter w s
  starter w s is =
      let p = on_ok ESRCH (pending_of (ports_of w) t) _ s is in
      let same : p.0 ≡ s = cc (p.2) in
      go (task_at w t) refl (p.1 ∙ ap Some same)
    where
      go : (o : Option Task) → task_at w t ≡ o → pending_at o ≡ Some s → Starter w s
      go None at e = absurd (cc)
      go (Some x) at e = record { seat = x; is_task = at; is_pending = e }

  pending_same : {S : ℕ → Bool} {v w : World} → Agree S v w → S t ≡ true → pending_asks w t ≡ pending_asks v t
  pending_same a ours = on_same _ _ _ _ _ (ap pending_at (same_tasks a t ours)) (λ s at. refl)

  pending_plain : (w : World) → IsPlain (pending_asks w t)
  pending_plain w = on_plain _ _ _ refl (λ s at. ok_plain _)

  -- a task of S sees the node of what it is to start
  module _ {S : ℕ → Bool} {w : World} (ours : S t ≡ true) (s : PendingStart) (k : Starter w s) where
    pub starter_sees : Seen S w s.node
    starter_sees = Pending (record { task = t; ours = ours; seat = k.seat; is_task = k.is_task; here = among k.seat.pending k.is_pending })
      where
        among : (p : Option PendingStart) → p ≡ Some s → IsAmong (Start s.node) (start_of p ++ (map (λ q. q.right) k.seat.ports ++ k.seat.inbox))
        among None e = absurd (cc)
        among (Some q) e = inl (let same : q ≡ s = cc in ap (λ (z : PendingStart). Start z.node) same)

  -- it is to start nothing any more

  pub start_failed_laws : CallLaws t (λ w. plan_start_failed w t) (λ w. touches_start_failed w t)
  start_failed_laws = record {
    piece = λ w s. answered_whole s (pending_asks w t) _ (λ q is. let k = starter w q is in pends_whole (stands s) t None k.seat k.is_task (own_task w t Nothing) tt (λ S ours. tt));
    same = λ S v w c d a ours. answered_same _ _ _ _ (pending_same a ours) (λ q is. refl);
    plain = λ w. answered_plain _ _ (pending_plain w) (λ q is. done_plain Done refl);
  }

-- a task of S has its own ids
task_taken : (S : ℕ → Bool) (w : World) (t : ℕ) (x : Task) → S t ≡ true → task_at w t ≡ Some x → Taken S w x.ids
task_taken S w t x ours at = record { uids = λ u h. UidOfTask t ours x at h; gids = λ g h. GidOfTask t ours x at h }

-- fsys_startup

module _ (t : ℕ) (m : Meaning) where
  -- where it starts, the node is there, and so is the task
  pub record Startable (w : World) (s : PendingStart) (a : Startup) : Type 0 where
    pub there : header_at w s.node ≡ Some a.header
    pub named : naming_asks w t 2 ≡ Ok a.task
    pub aims : start_aims w t m a.header.owner ≡ Ok a.targets

  pub startable : (w : World) (s : PendingStart) (a : Startup) → startup_asks w t m s ≡ Ok a → Startable w s a
  startable w s a is =
      let h = first_ok (waiting_asks w s) _ a is in
      let ns = first_ok (start_aims w t m h.0.owner) _ a h.2 in
      let x = first_ok (naming_asks w t 2) _ a ns.2 in
      let k = on_ok EDIED (header_at w s.node) _ h.0 h.1 in
      let b = given_ok EBUSY (not (is_some (active_at w s.node)) && same_words k.0.passive s.words) _ h.0 k.2 in
      let header : k.0 ≡ h.0 = cc (b.1) in
      let same : ◌≡◌ {A = Startup} (record { header = h.0; targets = ns.0; task = x.0 }) a = cc (x.2) in
      subst (Startable w s) same (record { there = k.1 ∙ ap Some header; named = x.1; aims = ns.1 })

  -- the targets that are found, a task of S saw
  targets_seen : {S : ℕ → Bool} {w : World} (ours : S t ≡ true) (x : Task) → task_at w t ≡ Some x → (owner : ℕ) (ns : List Name) → start_aims w t m owner ≡ Ok ns → (n : Name) → IsAmong n ns → Seen S w n
  targets_seen {S} {w} ours x at owner ns is =
      let y = on_ok ESRCH (task_at w t) _ ns is in
      aims_seen S w y.0.ids (task_taken S w t y.0 ours y.1) owner EBUSY refl m ns y.2

  targets_fit : {w : World} → Sound w → (owner : ℕ) (ns : List Name) → start_aims w t m owner ≡ Ok ns → ((n : Name) → IsAmong n ns → Seen (λ u. true) w n) → Aims w m ns
  targets_fit {w} st owner ns is seen = let y = on_ok ESRCH (task_at w t) _ ns is in aims_fit w (stands st) (lent y.0.ids owner) EBUSY refl m ns y.2 seen

  abbrev parts : PendingStart → Result Startup Errno → Part → Type 0
  parts s r = asked_parts r (λ a p. p ≡ AttrOf s.node)

  -- the task is to start nothing any more, or the server comes
  started_whole : (w : World) → Sound w → (s : PendingStart) → Starter t w s → Whole t (Full w t (parts s (startup_asks w t m s))) w w (started t s m (startup_asks w t m s)).changes
  unfolding asked_parts
  started_whole w st s k = go (startup_asks w t m s) refl
    where
      go : (r : Result Startup Errno) → startup_asks w t m s ≡ r → Whole t (Full w t (parts s r)) w w (started t s m r).changes
      go (Err e) is = pends_whole (stands st) t None k.seat k.is_task (own_task w t (parts s (Err e))) tt (λ S ours. tt)
      go (Ok a) is =
          let b = startable w s a is in
          let at = counted_task w t (can_name 2) a.task b.named in
          let later = later_new w t 1 a.task at in
          let aims = targets_fit st a.header.owner a.targets b.aims (targets_seen {S = λ u. true} refl a.task at a.header.owner a.targets b.aims) in
          starts_whole (stands st) (fresh t a.task) s.node _ _ (newcomer w t s.node a.header (a.header, b.there) m a.task at a.targets aims) (begins w t s.node a.header (a.header, b.there) m a.task at a.targets aims)
          (own_task w t (parts s (Ok a))) (inr (inr later)) (inr (inr later)) (inr (inr later)) (inr (inr later)) (inl refl) (inr (inr (fresh_new w t a.task at))) (inr (inr (fresh_new w t a.task at))) (inr (inr (fresh_new w t a.task at)))
          (λ S ours q among. inl (targets_seen ours a.task at a.header.owner a.targets b.aims q among))

  -- in worlds that agree
  startup_same : {S : ℕ → Bool} {v w : World} → Agree S v w → S t ≡ true → (s : PendingStart) → Starter t v s → startup_asks w t m s ≡ startup_asks v t m s
  startup_same {S} {v} {w} a ours s k =
      let seen : Seen S v s.node = starter_sees t ours s k in
      first_same _ _ _ _
      (on_same _ _ _ _ _ (header_same a s.node seen) (λ h at. given_same _ _ _ _ _ (ap (λ o. not (is_some o) && same_words h.passive s.words) (active_same a s.node seen)) (λ e. refl)))
      (λ h is. first_same _ _ _ _ (on_same _ _ _ _ _ (same_tasks a t ours) (λ x at. (aims_alike a x.ids (task_taken S v t x ours at) h.owner EBUSY refl m).same)) (λ ns aims.
      first_same _ _ _ _ (naming_same a t ours) (λ x at. refl)))

  -- of memory nothing is known
  pub startup_plain : (w : World) (s : PendingStart) → IsPlain (startup_asks w t m s)
  startup_plain w s =
      first_plain _ _ (on_plain _ _ _ refl (λ h at. given_plain _ _ _ refl (λ e. ok_plain _)))
      (λ h is. first_plain _ _ (on_plain _ _ _ refl (λ x at. (aims_alike (Agree-refl (λ u. true) w) x.ids (task_taken (λ u. true) w t x refl at) h.owner EBUSY refl m).plain)) (λ ns aims.
      first_plain _ _ (naming_plain w t) (λ x at. ok_plain _)))

  started_plain : (w : World) (s : PendingStart) → IsPlainReply (started t s m (startup_asks w t m s)).reply
  started_plain w s = go (startup_asks w t m s) refl
    where
      go : (r : Result Startup Errno) → startup_asks w t m s ≡ r → IsPlainReply (started t s m r).reply
      go (Err e) is = refused_plain e (startup_plain w s e is)
      go (Ok a) is = done_plain Done refl

  pub startup_laws : CallLaws t (λ w. plan_startup w t m) (λ w. touches_startup w t m)
  startup_laws = record {
    piece = λ w s. answered_piece s (pending_asks w t) _ _ (λ q is. started_whole w s q (starter t w q is));
    same = λ S v w c d a ours. answered_same _ _ _ _ (pending_same t a ours) (λ s is. ap (started t s m) (startup_same a ours s (starter t v s is)));
    plain = λ w. answered_plain _ _ (pending_plain t w) (λ s is. started_plain w s);
  }
