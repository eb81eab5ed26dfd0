-- What is shown of a call, and the laws of one step that follow from it.
use Rattle.std.proofs.Common.{◌≡◌, ◌≢◌, ℕ, Bool, true, false, Option, Some, None, refl, sym, ◌∙◌, ap, subst, inl, inr, true≢false}
use Rattle.std.specs.Prelude.{Result, Ok, Err}
use Rattle.hurd_machine.proofs.Common.{AttrOf, Below, BodyOf, Coherent, Control, EmptyOf, Errno, Knows, Meaning, Name, Nothing, OfControl, OfNode, OfSeat, OpenOf, OptionsOf, Part, Plan, Reply, SameView, Seen, Sees, Sound, Task, TaskOf, TextOf, UsersOf, World, after_plan, answered, asked_parts, handing_back, is_refused, looks, task_at, EndsOf, TotalOf}
use Rattle.hurd_machine.specs.declared.call.Reply.TheVariants.{Refused}
use Rattle.hurd_machine.specs.Plan.{returning}
use Rattle.hurd_machine.proofs.Coherence.{AllProper, right_old, home_server}
use Rattle.hurd_machine.proofs.Frame.{IsUnnamed, Full, untouched, unseen_from}
use Rattle.hurd_machine.proofs.Settle.{AsBefore}
use Rattle.hurd_machine.proofs.Views.{Agree, Agree-refl, view_of, agree_of}
use Rattle.hurd_machine.proofs.Asks.{IsPlainReply, answered_all, IsPlain, answered_plain, answered_same, done_plain}
use Rattle.hurd_machine.proofs.Confine.{Known, SeenOrNew, seen_old}
use Rattle.hurd_machine.proofs.Confined.{Grown, grown}
use Rattle.hurd_machine.proofs.Confined as changes
use Rattle.hurd_machine.proofs.Several.{agree_after}
use Rattle.hurd_machine.proofs.Piece.{Whole, stands, left_stands, whole_none}

-- of a call of task t, which plans this and touches these parts
pub record CallLaws (t : ℕ) (plan : World → Plan) (touches : World → Part → Type 0) : Type 0 where
  -- its changes are a piece, which writes what the call touches, its own task and what is new; from a sound world it leaves one
  pub piece : (w : World) → Sound w → Whole t (Full w t (touches w)) w w (plan w).changes
  -- it plans the same in worlds that agree, where S has the task
  pub same : (S : ℕ → Bool) (v w : World) → Coherent v → Coherent w → Agree S v w → S t ≡ true → plan w ≡ plan v
  -- of memory it knows nothing
  pub plain : (w : World) → IsPlainReply (plan w).reply

-- of a plan that follows from what is asked it is enough to look at the answers

pub answered_piece : {A : Type 0} {t : ℕ} {w : World} → Sound w → (x : Result A Errno) (k : A → Plan) (parts : A → Part → Type 0) → ((a : A) → x ≡ Ok a → Whole t (Full w t (parts a)) w w (k a).changes)
    → Whole t (Full w t (asked_parts x parts)) w w (answered x k).changes
unfolding answered asked_parts
answered_piece s (Err e) k parts h = whole_none s
answered_piece s (Ok a) k parts h = h a refl

pub answered_whole : {A : Type 0} {t : ℕ} {T : Part → Type 0} {w : World} → Sound w → (x : Result A Errno) (k : A → Plan) → ((a : A) → x ≡ Ok a → Whole t T w w (k a).changes) → Whole t T w w (answered x k).changes
answered_whole {A} {t} {T} {w} s x k h = answered_all (λ P. Whole t T w w P.changes) (λ e. whole_none s) x k h

-- of a call that changes nothing it is enough that it asks the same in worlds that agree, and isn't refused for want
-- of memory
pub looking_laws : {A : Type 0} (t : ℕ) (asks : World → Result A Errno) (reply : A → Reply) → ((S : ℕ → Bool) (v w : World) → Coherent v → Agree S v w → S t ≡ true → asks w ≡ asks v) → ((w : World) → IsPlain (asks w))
    → ((a : A) → is_refused (reply a) ≡ false) → CallLaws t (λ w. looks (asks w) reply) (λ w. Nothing)
looking_laws t asks reply same plain told = record {
  piece = λ w s. answered_whole s (asks w) _ (λ a is. whole_none s);
  same = λ S v w c d a ours. answered_same _ _ _ _ (same S v w c a ours) (λ b is. refl);
  plain = λ w. answered_plain _ _ (plain w) (λ a is. done_plain (reply a) (told a));
}

-- a call that brings a box plans the same changes, and another reply only where it is refused

handed_plain : (m : Meaning) (r : Reply) → IsPlainReply r → IsPlainReply (handing_back m r)
handed_plain m (Refused e) out = out
handed_plain m r out = out

pub returning_laws : (t : ℕ) (plan : World → Plan) (touches : World → Part → Type 0) (box : Option Meaning) → CallLaws t plan touches → CallLaws t (λ w. returning box (plan w)) touches
returning_laws t plan touches None l = l
returning_laws t plan touches (Some m) l = record {
  piece = l.piece;
  same = λ S v w c d a ours. ap (returning (Some m)) (l.same S v w c d a ours);
  plain = λ w. handed_plain m (plan w).reply (l.plain w);
}

-- what is seen has a name that was given

known_named : (S : ℕ → Bool) (w : World) → Coherent w → (s : Name) → Knows S w s → Below w s
known_named S w c s (OfNode n sn en) = let i = home_server c n s en in c.given.servers s i.0 i.1
known_named S w c s (OfSeat n sn en) = let i = c.seating.seated n s en in c.given.servers s i.1 i.2
known_named S w c s (OfControl h) = c.given.rights h.task h.seat (Control s) h.is_task h.here

sees_named : (S : ℕ → Bool) (w : World) → Coherent w → (p : Part) → Sees S w p → IsUnnamed w p → ⊥
sees_named S w c (AttrOf n) sees new = new (seen_old c n sees)
sees_named S w c (EmptyOf n) sees new = new (seen_old c n sees.0)
sees_named S w c (BodyOf n) sees new = new (seen_old c n sees.0)
sees_named S w c (EndsOf n) sees new = new (seen_old c n sees.1.0)
sees_named S w c (OpenOf o) sees new = new (subst (Below w) sees.2 (right_old c sees.1.task sees.1.seat sees.0 sees.1.is_task sees.1.here).1)
sees_named S w c (OptionsOf s) sees new = new (known_named S w c s sees)
sees_named S w c (TextOf s) sees new = new (c.given.servers s sees.0 sees.1)
sees_named S w c (UsersOf s) sees new = new (c.given.servers s sees.info sees.is_server)
sees_named S w c (TotalOf s) sees new = new (c.given.servers s sees.info sees.is_server)
sees_named S w c (TaskOf t) sees new = new

-- the laws of one step
module _ (t : ℕ) (plan : World → Plan) (touches : World → Part → Type 0) (l : CallLaws t plan touches) where
  abbrev after : World → World
  after w = after_plan w (plan w)

  -- a part that it doesn't touch, that is not new and not its own task, stays, or its thing goes
  pub changes_touched : (w : World) (p : Part) → Sound w → (IsUnnamed w p → ⊥) → (touches w p → ⊥) → p ≢ TaskOf t → AsBefore w (after w) p
  changes_touched w p s old out other = let q = (l.piece w s).piece in untouched (touches w) w t (plan w).changes p s q.proper q.within out other old

  -- where it touches nothing that S sees, and S is without its task, S sees the same
  pub others_unseen : (S : ℕ → Bool) (w : World) → Sound w → S t ≡ false → ((p : Part) → touches w p → Sees S w p → ⊥) → SameView S w (after w)
  others_unseen S w s out quiet = let q = (l.piece w s).piece in view_of (unseen_from S (Full w t (touches w)) w hidden (plan w).changes w s.coherent q.proper q.within (Agree-refl S w))
    where
      hidden : (p : Part) → Sees S w p → Full w t (touches w) p → ⊥
      hidden p sees full = elim full [
        | inl touched ↦ quiet p touched sees
        | inr own ↦ elim own [ inl e ↦ true≢false (sym (subst (Sees S w) e sees) ∙ out) | inr new ↦ sees_named S w s.coherent p sees new ]
      ]

  -- where S has its task, the reply and the view afterwards depend on the view before alone
  pub own_from_view : (S : ℕ → Bool) (v w : World) → Sound v → Sound w → S t ≡ true → SameView S v w → ((plan w).reply ≡ (plan v).reply) × SameView S (after v) (after w)
  own_from_view S v w sv sw ours view =
      let a : Agree S v w = agree_of view in
      let same : plan w ≡ plan v = l.same S v w sv.coherent sw.coherent a ours in
      let one = (l.piece v sv).piece in
      let proper : AllProper w (plan v).changes = subst (λ (P : Plan). AllProper w P.changes) same (l.piece w sw).piece.proper in
      let left : Agree S (after v) (after_plan w (plan v)) = agree_after S v w (plan v).changes sv.coherent sw.coherent a one.proper proper (one.may S ours) in
      (ap (λ (P : Plan). P.reply) same, view_of (subst (λ P. Agree S (after v) (after_plan w P)) (sym same) left))

  pub stays_sound : (w : World) → Sound w → Sound (after w)
  stays_sound w s =
      let q = l.piece w s in
      let left = left_stands (stands s) q.piece in
      record { coherent = left.coherent; linked = left.linked; filled = left.filled; settled = q.rests }

  -- if S has its task, S sees a part afterwards only if it saw it before, or if it is of something that its task made
  pub sees_closed : (S : ℕ → Bool) (w : World) → Sound w → S t ≡ true → (p : Part) → Sees S (after w) p → Known S w p
  sees_closed S w s ours p sees = changes.confined S w (plan w).changes s.coherent (l.piece w s).piece.proper ((l.piece w s).piece.may S ours) p sees

  -- so it does with nodes
  pub confined : (S : ℕ → Bool) (w : World) → Sound w → S t ≡ true → (n : Name) → Seen S (after w) n → SeenOrNew S w n
  confined S w s ours n seen = sees_closed S w s ours (AttrOf n) seen

  -- no task has named less
  pub names_grow : (w : World) → Sound w → (q : ℕ) (y : Task) → task_at (after w) q ≡ Some y → Grown w q y
  names_grow w s q y at = grown (plan w).changes w s.coherent (l.piece w s).piece.proper q y at
