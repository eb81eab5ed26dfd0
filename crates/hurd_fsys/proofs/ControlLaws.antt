-- Ports that control servers: what an answer shows, and that it is the same in worlds that agree; and a port more to control one.
use Rattle.std.proofs.Common.{◌≡◌, ◌∙◌, ◌||◌, ◌≤◌, ℕ, Bool, true, [], ◌∷◌, Some, refl, sym, ap, subst, inl, inr, arith}
use Rattle.std.specs.Prelude.{Result, Ok, Err}
use Rattle.hurd_machine.proofs.Common.{Coherent, Control, CouldServe, EBADF, EDIED, Errno, Holds, IdSets, Io, IoRight, Name, Named, OwnsIt, Right, ServerInfo, UidOfRight, World, bare, holds_uid, is_eq, least_uid, nat_cmp_total, owns, ports_of, server_at, tied_itself}
use Rattle.std.specs.FinSet as set
use Rattle.std.proofs.lemmas.List.Elements.{All-nil, All-cons}
use Rattle.hurd_ports.specs.Tables.{right_of}
use Rattle.std.proofs.lemmas.Bool.{or_cases}
use Rattle.hurd_creds.specs.Access.{is_root}
use Rattle.hurd_creds.proofs.IdLaws.{least-answer}
use Rattle.hurd_machine.proofs.Asks.{IsPlain, right_same, right_plain, holds_right, first_ok, on_ok, first_same, on_same, first_plain, on_plain, ok_plain, err_plain}
use Rattle.hurd_machine.proofs.Views.{Agree, control_known}
use Rattle.hurd_core.specs.Control.{control_in, control_of}
use Rattle.hurd_fsys.specs.Controls.{Controlled, control_asks}
use Rattle.hurd_fsys.specs.Fsys.{holds_any, may_control}

-- a port that controls is one with that right
pub control_is : (w : World) (t c : ℕ) (s : Name) → control_of (ports_of w) t c ≡ Ok s → right_of (ports_of w) t c ≡ Ok (Control s)
control_is w t c s h = go (right_of (ports_of w) t c) h
  where
    go : (o : Result Right Errno) → control_in o ≡ Ok s → o ≡ Ok (Control s)
    go (Ok (Control q)) k = let same : q ≡ s = cc in ap (λ (z : Name). Ok (Control z)) same
    go _ k = absurd (cc)

pub control_same : {S : ℕ → Bool} {v w : World} → Agree S v w → (t : ℕ) → S t ≡ true → (c : ℕ) → control_of (ports_of w) t c ≡ control_of (ports_of v) t c
control_same a t ours c = ap control_in (right_same a t ours c)

pub control_plain : (w : World) (t c : ℕ) → IsPlain (control_of (ports_of w) t c)
control_plain w t c = go (right_of (ports_of w) t c) (right_plain w t c)
  where
    go : (o : Result Right Errno) → IsPlain o → IsPlain (control_in o)
    go (Err e) p = err_plain e (p e refl)
    go (Ok (Control q)) p = ok_plain q
    go _ p = err_plain EBADF refl

-- a server that a port controls
pub record IsControlled (w : World) (t c : ℕ) (k : Controlled) : Type 0 where
  pub is_right : right_of (ports_of w) t c ≡ Ok (Control k.server)
  pub is_server : server_at w k.server ≡ Some k.info

pub is_controlled : (w : World) (t c : ℕ) (k : Controlled) → control_asks w t c ≡ Ok k → IsControlled w t c k
is_controlled w t c k is =
    let s = first_ok (control_of (ports_of w) t c) _ k is in
    let i = on_ok EDIED (server_at w s.0) _ k s.2 in
    let same : record { server = s.0; info = i.0 } ≡ k = cc (i.2) in
    subst (IsControlled w t c) same (record { is_right = control_is w t c s.0 s.1; is_server = i.1 })

pub controlled_same : {S : ℕ → Bool} {v w : World} → Agree S v w → (t : ℕ) → S t ≡ true → (c : ℕ) → control_asks w t c ≡ control_asks v t c
controlled_same {S} {v} {w} a t ours c =
    first_same _ _ _ _ (control_same a t ours c) (λ s is.
    on_same _ _ _ _ _ (control_known a s (holds_right t ours c (Control s) (control_is v t c s is))) (λ i there. refl))

pub controlled_plain : (w : World) (t c : ℕ) → IsPlain (control_asks w t c)
controlled_plain w t c = first_plain _ _ (control_plain w t c) (λ s is. on_plain _ _ _ refl (λ i there. ok_plain _))

-- ids that own a node hold its owner's uid, or 0
pub owner_holds : (S : ℕ → Bool) (v : World) (n : Named) → Holds S v (Io n.right) → owns n.right.ids (bare n.header) ≡ true → OwnsIt S v n.header
owner_holds S v n held h = elim (or_cases (holds_uid n.right.ids n.header.owner) (is_root n.right.ids) h) [
  | inl e ↦ (n.header.owner, UidOfRight n.right held e, inl refl)
  | inr e ↦ (0, UidOfRight n.right held e, inr refl)
]

-- a server's one uid is the least that it has
its_uid : (i : IdSets) (u : ℕ) → i ≡ record { uids = set.from_list (u ∷ []); gids = set.from_list [] } → least_uid i ≡ Some u
its_uid i u is =
    ap least_uid is
    ∙ sym (least-answer (u ∷ []) (Some u) (λ none. absurd (cc)) ((0, omega arith, refl), All-cons (λ v. u ≤ v) u [] (omega arith) (All-nil (λ v. u ≤ v))))

has_its_uid : (i : IdSets) (u : ℕ) → i ≡ record { uids = set.from_list (u ∷ []); gids = set.from_list [] } → holds_uid i u ≡ true
has_its_uid i u is = ap (λ d. holds_uid d u) is ∙ set.contains-insert nat_cmp_total _ u u ∙ ap (λ o. is_eq o || holds_uid none u) (tied_itself nat_cmp_total u)
  where
    none : IdSets
    none = record { uids = set.from_list []; gids = set.from_list [] }

-- ids that may control a server hold its uid, or 0
pub controller_holds : (S : ℕ → Bool) (v : World) → Coherent v → (r : IoRight) → Holds S v (Io r) → (s : Name) (i : ServerInfo) → server_at v s ≡ Some i
    → may_control r.ids i.ids ≡ true → CouldServe S v i
controller_holds S v c r held s i is may =
    let one = c.housing.serving s i is in
    elim (or_cases (is_root r.ids) (holds_any r.ids (least_uid i.ids)) may) [
      | inl root ↦ (0, UidOfRight r held root, inr refl)
      | inr any ↦ (one.0, UidOfRight r held (ap (holds_any r.ids) (sym (its_uid i.ids one.0 one.1)) ∙ any), inl (has_its_uid i.ids one.0 one.1))
    ]
