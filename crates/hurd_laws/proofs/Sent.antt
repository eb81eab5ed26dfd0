-- Rights that are sent to a task it has from then on; and with them it sees what was seen with them.
use Rattle.std.proofs.Common.{◌≡◌, ◌∙◌, ℕ, zero, suc, Bool, true, List, [], ◌∷◌, map, length, nat_lt, Some, Result, Ok, Err, slice_get, sym, refl, ap, subst, inl, inr, arith}
use Rattle.std.proofs.lemmas.Bool.Decides.{nat_tests}
use Rattle.hurd_machine.proofs.Common.{Errno, HasGid, HasUid, GidOfRight, GidOfTask, Holds, Io, IsAmong, Part, Right, Sees, Send, Task, UidOfRight, UidOfTask, World, apply, edit_task, holds_gid, holds_uid, right_in, rights_of, start_of, task_at, with_sent}
use Rattle.hurd_machine.proofs.Tasks.{among_right, edit_here, edit_still, sent_keeps}
use Rattle.hurd_machine.specs.declared.call.Call.TheVariants.{Plain}
use Rattle.hurd_machine.specs.declared.call.PlainCall.TheVariants.{PortSend}
unfoldable use Rattle.hurd_machine.specs.Plan.{answered, first, given}
use Rattle.hurd_core.specs.Core.{send_asks}
use Rattle.hurd_laws.specs.Step.{after}
use Rattle.hurd_laws.specs.Runs.{run}
use Rattle.hurd_machine.specs.Sight.{IsThing}
use Rattle.hurd_machine.proofs.Larger.{things}
use Rattle.hurd_laws.specs.ComesToSee.{sendings, AllListed, ReachedBySending}

-- a task that is there has a number below their count
in_range : (ts : List Task) (q : ℕ) (x : Task) → slice_get ts q ≡ Some x → nat_lt q (length ts) ≡ true
in_range [] q x e = absurd (cc)
in_range (y ∷ ts) zero x e = grind (arith, nat_tests)
in_range (y ∷ ts) (suc q) x e = let less : nat_lt q (length ts) ≡ true = in_range ts q x e in grind (arith, nat_tests)

-- what is asked is there
asked : (x : World) (t p q : ℕ) (y z : Task) (r : Right) → task_at x t ≡ Some y → right_in p y.ports ≡ Some r → task_at x q ≡ Some z → send_asks x t p q ≡ Ok r
unfolding first given
asked x t p q y z r is under there = rw (is, under, in_range x.tasks q z there) refl

-- the world after a port is sent
abbrev sent : World → ℕ → ℕ → ℕ → World
sent x t p q = after x t (Plain (PortSend p (record { 0 = q })))

sent_ok : (x : World) (t p q : ℕ) (r : Right) → send_asks x t p q ≡ Ok r → sent x t p q ≡ apply (Send r q) x
unfolding answered
sent_ok x t p q r is = rw is refl

sent_none : (x : World) (t p q : ℕ) (e : Errno) → send_asks x t p q ≡ Err e → sent x t p q ≡ x
unfolding answered
sent_none x t p q e is = rw is refl

-- in x the task q has the right r
abbrev Has : World → ℕ → Right → Type 0
Has x q r = (z : Task) × (task_at x q ≡ Some z) × IsAmong r (rights_of z)

-- x is w except for what was sent
record Carried (w x : World) : Type 0 where
  same : x ≡ record w { tasks = x.tasks }
  task : (t : ℕ) (y : Task) → task_at w t ≡ Some y → (z : Task) × (task_at x t ≡ Some z) × (z.ports ≡ y.ports)

-- one right more
module _ (w x : World) (r : Right) (q : ℕ) where
  carried_one : Carried w x → Carried w (apply (Send r q) x)
  carried_one c = record {
    same = ap (λ (y : World). record y { tasks = edit_task q (with_sent r) x.tasks }) c.same;
    task = λ t y is.
        let z = c.task t y is in
        elim (edit_still q (with_sent r) x.tasks t z.0 z.1) [ inl more ↦ (with_sent r z.0, more, z.2) | inr still ↦ (z.0, still, z.2) ];
  }

  kept_one : (s : ℕ) (k : Right) → Has x s k → Has (apply (Send r q) x) s k
  kept_one s k h = elim (edit_still q (with_sent r) x.tasks s h.0 h.1) [ inl more ↦ (with_sent r h.0, more, sent_keeps r h.0 k h.2) | inr still ↦ (h.0, still, h.2) ]

  got_one : (z : Task) → task_at x q ≡ Some z → Has (apply (Send r q) x) q r
  got_one z at = (
    with_sent r z,
    edit_here q (with_sent r) x.tasks z at,
    among_right r (start_of z.pending) _ (among_right r (map (λ p. p.right) z.ports) _ (among_right r z.inbox (r ∷ []) (inl refl))),
  )

-- one call
module _ (w x : World) (t p q : ℕ) where
  carried_call : Carried w x → Carried w (sent x t p q)
  carried_call c = go (send_asks x t p q) refl
    where
      go : (o : Result Right Errno) → send_asks x t p q ≡ o → Carried w (sent x t p q)
      go (Ok r) is = subst (Carried w) (sym (sent_ok x t p q r is)) (carried_one w x r q c)
      go (Err e) is = subst (Carried w) (sym (sent_none x t p q e is)) c

  kept_call : (s : ℕ) (k : Right) → Has x s k → Has (sent x t p q) s k
  kept_call s k h = go (send_asks x t p q) refl
    where
      go : (o : Result Right Errno) → send_asks x t p q ≡ o → Has (sent x t p q) s k
      go (Ok r) is = subst (λ y. Has y s k) (sym (sent_ok x t p q r is)) (kept_one w x r q s k h)
      go (Err e) is = subst (λ y. Has y s k) (sym (sent_none x t p q e is)) h

  got_call : Carried w x → (y z : Task) (r : Right) → task_at w t ≡ Some y → right_in p y.ports ≡ Some r → task_at w q ≡ Some z → Has (sent x t p q) q r
  got_call c y z r is under there =
      let a = c.task t y is in
      let b = c.task q z there in
      let ok = asked x t p q a.0 b.0 r a.1 (ap (right_in p) a.2 ∙ under) b.1 in
      subst (λ v. Has v q r) (sym (sent_ok x t p q r ok)) (got_one w x r q b.0 b.1)

-- many calls
module _ (w : World) (q : ℕ) where
  carried_run : (ms : List (ℕ × ℕ)) (x : World) → Carried w x → Carried w (run x (sendings q ms))
  carried_run [] x c = c
  carried_run (m ∷ ms) x c = carried_run ms (sent x m.0 m.1 q) (carried_call w x m.0 m.1 q c)

  kept_run : (ms : List (ℕ × ℕ)) (x : World) (s : ℕ) (k : Right) → Has x s k → Has (run x (sendings q ms)) s k
  kept_run [] x s k h = h
  kept_run (m ∷ ms) x s k h = kept_run ms (sent x m.0 m.1 q) s k (kept_call w x m.0 m.1 q s k h)

  got_run : (ms : List (ℕ × ℕ)) (x : World) → Carried w x → (t p : ℕ) (y z : Task) (r : Right) → IsAmong (t, p) ms → task_at w t ≡ Some y → right_in p y.ports ≡ Some r → task_at w q ≡ Some z
      → Has (run x (sendings q ms)) q r
  got_run [] x c t p y z r i is under there = absurd i
  got_run (m ∷ ms) x c t p y z r (inl e) is under there =
      let first_is : m.0 ≡ t = ap (λ (k : ℕ × ℕ). k.0) e in
      let port_is : m.1 ≡ p = ap (λ (k : ℕ × ℕ). k.1) e in
      kept_run ms (sent x m.0 m.1 q) q r (got_call w x m.0 m.1 q c y z r (ap (task_at w) first_is ∙ is) (ap (λ k. right_in k y.ports) port_is ∙ under) there)
  got_run (m ∷ ms) x c t p y z r (inr i) is under there = got_run ms (sent x m.0 m.1 q) (carried_call w x m.0 m.1 q c) t p y z r i is under there

module _ (S G : ℕ → Bool) (w : World) (ms : List (ℕ × ℕ)) (q : ℕ) (seat : Task) (ours : S q ≡ true) (there : task_at w q ≡ Some seat) (listed : AllListed G w ms) where
  abbrev end : World
  end = run w (sendings q ms)

  has : (t : ℕ) (y : Task) (r : Right) → G t ≡ true → task_at w t ≡ Some y → IsAmong r (rights_of y) → Holds S end r
  has t y r mine is here =
      let l = listed.rights t y r mine is here in
      let h = got_run w q ms w (record { same = refl; task = λ k u at. (u, at, refl) }) t l.0 y seat r l.1 is l.2 there in
      record { task = q; ours = ours; seat = h.0; is_task = h.1; here = h.2 }

  holds : (r : Right) → Holds G w r → Holds S end r
  holds r h = has h.task h.seat r h.ours h.is_task h.here

  uid : (u : ℕ) → HasUid G w u → HasUid S end u
  uid u (UidOfTask t mine x is has_it) = let l = listed.ids t x mine is in UidOfRight l.0 (has t x (Io l.0) mine is l.1) (ap (λ ids. holds_uid ids u) l.2 ∙ has_it)
  uid u (UidOfRight r held has_it) = UidOfRight r (holds (Io r) held) has_it

  gid : (g : ℕ) → HasGid G w g → HasGid S end g
  gid g (GidOfTask t mine x is has_it) = let l = listed.ids t x mine is in GidOfRight l.0 (has t x (Io l.0) mine is l.1) (ap (λ ids. holds_gid ids g) l.2 ∙ has_it)
  gid g (GidOfRight r held has_it) = GidOfRight r (holds (Io r) held) has_it

  reached : (p : Part) → IsThing p → Sees G w p → Sees S end p
  reached p thing sees =
      let same : end ≡ record w { tasks = end.tasks } = (carried_run w q ms w (record { same = refl; task = λ k u at. (u, at, refl) })).same in
      subst (λ x. Sees S x p) (sym same)
      (things w end.tasks
      (λ r h. subst (λ x. Holds S x r) same (holds r h))
      (λ u h. subst (λ x. HasUid S x u) same (uid u h))
      (λ g h. subst (λ x. HasGid S x g) same (gid g h))
      p thing sees)

pub reached_by_sending : ReachedBySending
reached_by_sending S G w ms q x p ours there listed thing sees = reached S G w ms q x ours there listed p thing sees
