-- The laws of the calls on rights and ids: a port that goes; a right that goes to any inbox, and one that comes from there; and
-- other ids, which the task holds already.
use Rattle.std.proofs.Common.{ℕ, refl, inl, ◌≡◌, ◌∙◌, Bool, true, Some, Ok, length, nat_lt, ap, inr, subst}
use Rattle.hurd_machine.proofs.Common.{Control, EOVERFLOW, EPERM, ESRCH, EWOULDBLOCK, Holds, IdSets, Io, Name, Nothing, OnDrop, OpenOf, Right, Sees, Start, Task, World, first_sent, open_of, ports_of, task_at, task_of}
use Rattle.hurd_ports.specs.Tables.{right_of}
use Rattle.hurd_machine.specs.declared.call.Reply.TheVariants.{Done, Port}
use Rattle.hurd_machine.proofs.Asks.{right_same, answered_same, has_right, right_plain, answered_plain, done_plain, IsPlain, holds_right, on_ok, given_ok, first_ok, on_same, given_same, first_same, on_plain, given_plain, first_plain, ok_plain, has_task, task_same, task_plain}
use Rattle.hurd_machine.proofs.Opens.{own_task, drops_whole}
use Rattle.hurd_machine.proofs.Piece.{stands}
use Rattle.hurd_machine.proofs.CallLaws.{CallLaws, answered_piece, answered_whole}
use Rattle.hurd_rights.specs.Rights.{plan_deallocate, touches_deallocate, plan_send, touches_send, plan_receive, touches_receive, makeauth_asks, plan_makeauth, touches_makeauth}
use Rattle.hurd_machine.proofs.Views.{Agree, same_tasks}
use Rattle.hurd_machine.proofs.Sending.{sends_whole, receives_whole}
use Rattle.hurd_core.specs.Core.{send_asks, receive_asks}
use Rattle.hurd_creds.specs.Access.{may_take}
use Rattle.hurd_machine.proofs.Sharing.{taken_taken}
use Rattle.hurd_machine.proofs.Taking.{takes_whole}

-- port_deallocate: it asks for the right alone, and gives up what was the caller's

-- the open of a right of S is seen
open_seen : {S : ℕ → Bool} {w : World} (r : Right) → Holds S w r → (o : Name) → open_of r ≡ Some o → Sees S w (OpenOf o)
open_seen (Io q) held o names = (q, held, cc (names))
open_seen (Control s) held o names = absurd (cc (names))
open_seen (Start n) held o names = absurd (cc (names))

pub deallocate_laws : (t p : ℕ) → CallLaws t (λ w. plan_deallocate w t p) (λ w. touches_deallocate w t p)
deallocate_laws t p = record {
  piece = λ w s. answered_piece s (right_of (ports_of w) t p) _ _ (λ r is.
      let h = has_right w t p r is in drops_whole (stands s) t p h.seat r h.is_task h.under (own_task w t (OnDrop w r)) (λ q on. inl on) (λ S ours o names. inl (open_seen r (holds_right t ours p r is) o names)));
  same = λ S v w c d a ours. answered_same _ _ _ _ (right_same a t ours p) (λ r is. refl);
  plain = λ w. answered_plain _ _ (right_plain w t p) (λ r is. done_plain Done refl);
}

-- port_send

-- what is sent is a right of the task, to a task that is there
record IsSent (w : World) (t p q : ℕ) (r : Right) : Type 0 where
  is_right : right_of (ports_of w) t p ≡ Ok r
  there : nat_lt q (length w.tasks) ≡ true

is_sent : (w : World) (t p q : ℕ) (r : Right) → send_asks w t p q ≡ Ok r → IsSent w t p q r
is_sent w t p q r is =
    let n = first_ok (right_of (ports_of w) t p) _ r is in
    let g = given_ok ESRCH _ _ r n.2 in
    let same : n.0 ≡ r = cc (g.1) in
    record { is_right = n.1 ∙ ap Ok same; there = g.0 }

module _ (t p q : ℕ) where
  send_same : (S : ℕ → Bool) (v w : World) → Agree S v w → S t ≡ true → send_asks w t p q ≡ send_asks v t p q
  send_same S v w a ours = first_same _ _ _ _ (right_same a t ours p) (λ r is. given_same _ _ _ _ _ (ap (nat_lt q) a.tasks) (λ e. refl))

  send_plain : (w : World) → IsPlain (send_asks w t p q)
  send_plain w = first_plain _ _ (right_plain w t p) (λ r is. given_plain _ _ _ refl (λ e. ok_plain r))

  pub send_laws : CallLaws t (λ w. plan_send w t p q) (λ w. touches_send w t p q)
  send_laws = record {
    piece = λ w s. answered_piece s (send_asks w t p q) _ _ (λ r is.
        let i = is_sent w t p q r is in
        let h = has_right w t p r i.is_right in
        sends_whole s r q t h.seat h.is_task h.here i.there (inl (inr refl)) (λ k on. inl (inl on)) (λ S ours. holds_right t ours p r i.is_right));
    same = λ S v w c d a ours. answered_same _ _ _ _ (send_same S v w a ours) (λ r is. refl);
    plain = λ w. answered_plain _ _ (send_plain w) (λ r is. done_plain Done refl);
  }

-- port_receive

module _ (t : ℕ) where
  receiver : (w : World) (x : Task) → receive_asks w t ≡ Ok x → task_at w t ≡ Some x
  receiver w x is =
      let y = on_ok ESRCH (task_at w t) _ x is in
      let z = on_ok EWOULDBLOCK (first_sent y.0.inbox) _ x y.2 in
      let g = given_ok EOVERFLOW _ _ x z.2 in
      let same : y.0 ≡ x = cc (g.1) in
      y.1 ∙ ap Some same

  receive_same : (S : ℕ → Bool) (v w : World) → Agree S v w → S t ≡ true → receive_asks w t ≡ receive_asks v t
  receive_same S v w a ours = on_same _ _ _ _ _ (same_tasks a t ours) (λ x is. refl)

  receive_plain : (w : World) → IsPlain (receive_asks w t)
  receive_plain w = on_plain _ _ _ refl (λ x is. on_plain _ _ _ refl (λ r it. given_plain _ _ _ refl (λ room. ok_plain x)))

  pub receive_laws : CallLaws t (λ w. plan_receive w t) (λ w. touches_receive w t)
  receive_laws = record {
    piece = λ w s. answered_whole s (receive_asks w t) _ (λ x is. receives_whole s t x (receiver w x is) (own_task w t Nothing));
    same = λ S v w c d a ours. answered_same _ _ _ _ (receive_same S v w a ours) (λ x is. refl);
    plain = λ w. answered_plain _ _ (receive_plain w) (λ x is. done_plain (Port x.next) refl);
  }

-- auth_makeauth

module _ (t : ℕ) (ids : IdSets) where
  -- a task that may take the ids
  record IsTaken (w : World) (x : Task) : Type 0 where
    is_task : task_at w t ≡ Some x
    may : may_take x.ids ids ≡ true

  is_taken : (w : World) (x : Task) → makeauth_asks w t ids ≡ Ok x → IsTaken w x
  is_taken w x is =
      let y = first_ok (task_of (ports_of w) t) _ x is in
      let g = given_ok EPERM (may_take y.0.ids ids) _ x y.2 in
      let same : y.0 ≡ x = cc (g.1) in
      subst (IsTaken w) same (record { is_task = has_task w t y.0 y.1; may = g.0 })

  makeauth_same : (S : ℕ → Bool) (v w : World) → Agree S v w → S t ≡ true → makeauth_asks w t ids ≡ makeauth_asks v t ids
  makeauth_same S v w a ours = first_same _ _ _ _ (task_same a t ours) (λ x is. refl)

  makeauth_plain : (w : World) → IsPlain (makeauth_asks w t ids)
  makeauth_plain w = first_plain _ _ (task_plain w t) (λ x is. given_plain _ _ _ refl (λ e. ok_plain x))

  pub makeauth_laws : CallLaws t (λ w. plan_makeauth w t ids) (λ w. touches_makeauth w t ids)
  makeauth_laws = record {
    piece = λ w s. answered_whole s (makeauth_asks w t ids) _ (λ x is.
        let h = is_taken w x is in takes_whole s t ids x h.is_task (own_task w t Nothing) (λ S ours. taken_taken S w t x ids ours h.is_task h.may));
    same = λ S v w c d a ours. answered_same _ _ _ _ (makeauth_same S v w a ours) (λ x is. refl);
    plain = λ w. answered_plain _ _ (makeauth_plain w) (λ x is. done_plain Done refl);
  }
