-- The laws of ports that share an open: each has ids that the caller holds already; and whether two ports are on one node.
use Rattle.std.proofs.Common.{◌≡◌, ◌⊎◌, ℕ, Bool, true, Some, refl, ◌∙◌, ap, subst, inl, inr}
use Rattle.std.specs.Prelude.{Ok}
use Rattle.hurd_machine.proofs.Common.{EOVERFLOW, ESRCH, HasUid, IdSets, Io, IoRight, OnRight, Taken, Task, World, both_asks, port_asks, ports_of, task_at}
use Rattle.hurd_ports.specs.Tables.{right_of}
use Rattle.hurd_machine.specs.declared.call.Reply.TheVariants.{Port}
use Rattle.hurd_machine.proofs.Views.{Agree, same_tasks}
use Rattle.hurd_machine.proofs.Opens.{own_task}
use Rattle.hurd_machine.proofs.Sharing.{taken_task, taken_right, taken_restricted, shares_whole}
use Rattle.hurd_machine.proofs.BothLaws.{both_same, both_plain}
use Rattle.hurd_machine.proofs.Asks.{IsPlain, is_named, has_right, holds_right, on_ok, given_ok, first_ok, on_same, first_same, on_plain, given_plain, first_plain, ok_plain, port_same, port_plain, answered_same, answered_plain, done_plain}
use Rattle.hurd_machine.proofs.CallLaws.{CallLaws, answered_piece, looking_laws}
use Rattle.hurd_core.specs.Core.{room_asks}
use Rattle.hurd_io.specs.Sharing.{share_asks, plan_share, touches_share, ids_of_port, plan_duplicate, ids_of_task, plan_reauthenticate, ids_among, plan_restrict_auth, told_same, plan_identity, touches_identity}

-- what is shared is a right of the task
record IsShared (w : World) (t p : ℕ) (a : IoRight × Task) : Type 0 where
  is_right : right_of (ports_of w) t p ≡ Ok (Io a.0)
  is_task : task_at w t ≡ Some a.1

is_shared : (w : World) (t p : ℕ) (a : IoRight × Task) → share_asks w t p ≡ Ok a → IsShared w t p a
is_shared w t p a is =
    let n = first_ok (port_asks w t p) _ a is in
    let x = first_ok (room_asks w t 0) _ a n.2 in
    let y = on_ok ESRCH (task_at w t) _ x.0 x.1 in
    let g = given_ok EOVERFLOW _ _ x.0 y.2 in
    let task : y.0 ≡ x.0 = cc (g.1) in
    let same : (n.0.right, x.0) ≡ a = cc (x.2) in
    subst (IsShared w t p) same (record { is_right = (is_named w t p n.0 n.1).is_right; is_task = y.1 ∙ ap Some task })

module _ (t p : ℕ) where
  share_same : (S : ℕ → Bool) (v w : World) → Agree S v w → S t ≡ true → share_asks w t p ≡ share_asks v t p
  share_same S v w a ours =
      first_same _ _ _ _ (port_same a t ours p) (λ n is.
      first_same _ _ _ _ (on_same _ _ _ _ _ (same_tasks a t ours) (λ x e. refl)) (λ x e. refl))

  share_plain : (w : World) → IsPlain (share_asks w t p)
  share_plain w =
      first_plain _ _ (port_plain w t p) (λ n is.
      first_plain _ _ (on_plain _ _ _ refl (λ x e. given_plain _ _ _ refl (λ room. ok_plain x))) (λ x e. ok_plain _))

  module _ (ids : IdSets → IdSets → IdSets) where
    abbrev given : IoRight × Task → IdSets
    given a = ids a.1.ids a.0.ids

    -- where the caller holds the ids that the new port gets
    share_laws : ((S : ℕ → Bool) (v : World) (a : IoRight × Task) → S t ≡ true → IsShared v t p a → HasUid S v 0 ⊎ Taken S v (given a)) → CallLaws t (λ w. plan_share w t p ids) (λ w. touches_share w t p)
    share_laws power = record {
      piece = λ w s. answered_piece s (share_asks w t p) _ _ (λ a is.
          let k = is_shared w t p a is in
          let h = has_right w t p (Io a.0) k.is_right in
          shares_whole s t a.0 (given a) h.seat h.is_task h.here (own_task w t (OnRight w (Io a.0))) (λ q on. inl on) (λ S ours. (holds_right t ours p (Io a.0) k.is_right, power S w a ours k)));
      same = λ S v w c d a ours. answered_same _ _ _ _ (share_same S v w a ours) (λ b is. refl);
      plain = λ w. answered_plain _ _ (share_plain w) (λ a is. done_plain (Port a.1.next) refl);
    }

pub duplicate_laws : (t p : ℕ) → CallLaws t (λ w. plan_duplicate w t p) (λ w. touches_share w t p)
duplicate_laws t p = share_laws t p ids_of_port (λ S v a ours h. inr (taken_right S v a.0 (holds_right t ours p (Io a.0) h.is_right)))

pub reauthenticate_laws : (t p : ℕ) → CallLaws t (λ w. plan_reauthenticate w t p) (λ w. touches_share w t p)
reauthenticate_laws t p = share_laws t p ids_of_task (λ S v a ours h. inr (taken_task S v t a.1 ours h.is_task))

pub restrict_auth_laws : (t p : ℕ) (asked : IdSets) → CallLaws t (λ w. plan_restrict_auth w t p asked) (λ w. touches_share w t p)
restrict_auth_laws t p asked = share_laws t p (ids_among asked) (λ S v a ours h. taken_restricted S v a.0 asked (holds_right t ours p (Io a.0) h.is_right))

-- io_identity

pub identity_laws : (t p q : ℕ) → CallLaws t (λ w. plan_identity w t p q) (λ w. touches_identity w t p q)
identity_laws t p q = looking_laws t (λ w. both_asks w t p q) told_same (λ S v w c a ours. both_same a t ours p q) (λ w. both_plain w t p q) (λ a. refl)
