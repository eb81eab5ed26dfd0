-- The laws of what ids may, and of owners, groups and modes.
use Rattle.std.proofs.Common.{◌≡◌, ◌⊎◌, ◌||◌, ◌&&◌, ℕ, Bool, true, false, refl, subst, inl, inr}
use Rattle.std.proofs.lemmas.Bool.{or_cases}
use Rattle.std.specs.Prelude.{Ok}
use Rattle.hurd_machine.proofs.Common.{Attrs, EPERM, HasUid, Holds, IdSets, Io, Mode, Named, Reply, UidOfRight, World, answered, bare, holds_uid, known_mode, owns, port_asks, sets_attrs_at}
use Rattle.hurd_creds.specs.Access.{is_root}
use Rattle.hurd_machine.specs.declared.call.Reply.TheVariants.{Done}
use Rattle.hurd_machine.specs.Plan.{Follows}
use Rattle.hurd_machine.proofs.Views.{Agree}
use Rattle.hurd_machine.proofs.Attrs.{attrs_whole}
use Rattle.hurd_machine.proofs.Asks.{IsPlain, IsNamed, is_named, port_same, port_seen, port_plain, sets_attrs_same, sets_attrs_plain, holds_right, first_ok, given_ok, first_same, first_plain, given_plain, ok_plain, answered_same, answered_plain, done_plain}
use Rattle.hurd_machine.proofs.CallLaws.{CallLaws, answered_piece, looking_laws}
use Rattle.hurd_core.proofs.PlanLaws.{follows-then, follows-from}
use Rattle.hurd_files.specs.Access.{told_access, plan_check_access, touches_check_access, setting_asks, setting, touches_setting, plan_chmod, touches_chmod, gives, plan_chown, touches_chown}

-- file_check_access: it asks for a node that the caller has a port on, and so sees.

pub check_access_laws : (t p : ℕ) → CallLaws t (λ w. plan_check_access w t p) (λ w. touches_check_access w t p)
check_access_laws t p = looking_laws t (λ w. port_asks w t p) told_access (λ S v w c a ours. port_same a t ours p) (λ w. port_plain w t p) (λ n. refl)

-- Setting owner, group and mode, by ids that may: it asks the same as file_check_access, and whether the node's server lets them be set.

-- a node that may be set
pub record MaySet (w : World) (t p : ℕ) (can : IdSets → Attrs → Bool) (n : Named) : Type 0 where
  pub is_named : IsNamed w t p n
  pub sets : sets_attrs_at w n.right.node ≡ Ok tt
  pub may : can n.right.ids (bare n.header) ≡ true

pub may_set : (w : World) (t p : ℕ) (can : IdSets → Attrs → Bool) (n : Named) → setting_asks w t p can ≡ Ok n → MaySet w t p can n
may_set w t p can n h =
    let a = first_ok _ _ n h in
    let s = first_ok _ _ n a.2 in
    let g = given_ok EPERM _ _ n s.2 in
    let same : a.0 ≡ n = cc (g.1) in
    subst (MaySet w t p can) same (record { is_named = is_named w t p a.0 a.1; sets = s.1; may = g.0 })

-- ids that own a node hold its owner's uid, or 0
owner_holds : (S : ℕ → Bool) (v : World) (n : Named) → Holds S v (Io n.right) → owns n.right.ids (bare n.header) ≡ true → (u : ℕ) × HasUid S v u × ((u ≡ n.header.owner) ⊎ (u ≡ 0))
owner_holds S v n held h = elim (or_cases (holds_uid n.right.ids n.header.owner) (is_root n.right.ids) h) [
  | inl e ↦ (n.header.owner, UidOfRight n.right held e, inl refl)
  | inr e ↦ (0, UidOfRight n.right held e, inr refl)
]

module _ (t p : ℕ) (can : IdSets → Attrs → Bool) (owner group : Named → ℕ) (mode : Named → Mode) where
  -- the core sets what was asked for
  pub setting-follows : (w : World) (n : Named) (r : Reply) (y : World) → setting_asks w t p can ≡ Ok n → Follows w (answered (sets_attrs_at w n.right.node) (λ u. setting n (owner n) (group n) (mode n))) r y
      → Follows w (answered (setting_asks w t p can) (λ m. setting m (owner m) (group m) (mode m))) r y
  setting-follows w n r y is f =
      follows-then w (setting_asks w t p can) (λ m. setting m (owner m) (group m) (mode m)) n r y is
      (follows-from w (sets_attrs_at w n.right.node) (λ u. setting n (owner n) (group n) (mode n)) tt r y (may_set w t p can n is).sets f)

  setting_same : (S : ℕ → Bool) (v w : World) → Agree S v w → S t ≡ true → setting_asks w t p can ≡ setting_asks v t p can
  setting_same S v w a ours =
      first_same _ _ _ _ (port_same a t ours p) (λ n is.
      first_same _ _ _ _ (sets_attrs_same a n.right.node (port_seen t ours p n is)) (λ u e. refl))

  setting_plain : (w : World) → IsPlain (setting_asks w t p can)
  setting_plain w =
      first_plain _ _ (port_plain w t p) (λ n is.
      first_plain _ _ (sets_attrs_plain w n.right.node) (λ u e. given_plain _ _ _ refl (λ may. ok_plain n)))

  -- where only owners may
  pub setting_laws : ((ids : IdSets) (a : Attrs) → can ids a ≡ true → owns ids a ≡ true)
      → CallLaws t (λ w. answered (setting_asks w t p can) (λ n. setting n (owner n) (group n) (mode n))) (λ w. touches_setting w t p can)
  setting_laws owners = record {
    piece = λ w s. answered_piece s (setting_asks w t p can) _ _ (λ n is.
        let m = may_set w t p can n is in
        attrs_whole n.right.node (owner n) (group n) (mode n) s (inl refl) n.header m.is_named.is_header (λ S ours.
        owner_holds S w n (holds_right t ours p (Io n.right) m.is_named.is_right) (owners n.right.ids (bare n.header) m.may)));
    same = λ S v w c d a ours. answered_same _ _ _ _ (setting_same S v w a ours) (λ n is. refl);
    plain = λ w. answered_plain _ _ (setting_plain w) (λ n is. done_plain Done refl);
  }

pub chmod_laws : (t p : ℕ) (mode : Mode) → CallLaws t (λ w. plan_chmod w t p mode) (λ w. touches_chmod w t p mode)
chmod_laws t p mode = setting_laws t p owns (λ n. n.header.owner) (λ n. n.header.group) (λ n. known_mode mode) (λ ids a h. h)

-- who may give a node away owns it
giver_owns : (owner group : ℕ) (ids : IdSets) (a : Attrs) → gives owner group ids a ≡ true → owns ids a ≡ true
giver_owns owner group ids a h = go (holds_uid ids a.owner) (is_root ids) _ _ h
  where
    go : (o r k g : Bool) → (r || ((o && k) && g)) ≡ true → (o || r) ≡ true
    go true r k g h = refl
    go false true k g h = refl
    go false false k g h = h

pub chown_laws : (t p owner group : ℕ) → CallLaws t (λ w. plan_chown w t p owner group) (λ w. touches_chown w t p owner group)
chown_laws t p owner group = setting_laws t p (gives owner group) (λ n. owner) (λ n. group) (λ n. n.header.mode) (giver_owns owner group)
