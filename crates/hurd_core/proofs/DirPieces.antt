-- A directory made by the core, as a piece of any call: what it asks, and what its changes keep.
use Rattle.std.proofs.Common.{◌≡◌, ℕ, Bool, true, List, Some, refl, subst}
use Rattle.std.specs.Prelude.{Ok}
use Rattle.hurd_machine.proofs.Common.{BodyOf, Dir, EDIED, EOVERFLOW, ESRCH, EmptyOf, LeadsUp, Name, Node, Part, Seen, Sees, Sound, Task, World, can_name, empty, fresh, home_at, makes_at, new_dir, task_at}
use Rattle.hurd_machine.specs.World.{nodes_of}
use Rattle.hurd_machine.proofs.Frame.{Full}
use Rattle.hurd_machine.proofs.Links.{dir_hangs}
use Rattle.hurd_machine.proofs.Views.{Agree, same_tasks, home_same}
use Rattle.hurd_machine.proofs.Asks.{IsPlain, first_ok, given_ok, on_ok, first_same, on_same, makes_same, ok_plain, first_plain, given_plain, on_plain, makes_plain}
use Rattle.hurd_machine.proofs.Makes.{MayMake, may_make, entered_whole}
use Rattle.hurd_core.specs.Core.{NewNodeAt, asked_node, naming_asks, making_dir_asks, making_dir}
use Rattle.hurd_trans_iface.proofs.Goods.{good}
use Rattle.hurd_machine.proofs.Piece.{Whole}

module _ (t : ℕ) (f : NewNodeAt) where
  abbrev node : Node
  node = new_dir f.owner f.group f.mode (Some f.dir)

  -- the task that makes it, the server, and that it may be made
  pub record AsksDir (w : World) (a : Task × Name) : Type 0 where
    pub is_task : task_at w t ≡ Some a.0
    pub home : home_at w f.dir ≡ Some a.1
    pub may : MayMake w f.dir f.entry Dir

  pub asks_dir : (w : World) (a : Task × Name) → making_dir_asks w t f ≡ Ok a → AsksDir w a
  asks_dir w a is =
      let u = first_ok (makes_at w f.dir f.entry Dir) _ a is in
      let x = first_ok (naming_asks w t 1) _ a u.2 in
      let s = on_ok EDIED (home_at w f.dir) _ a x.2 in
      let k = on_ok ESRCH (task_at w t) _ x.0 x.1 in
      let room = given_ok EOVERFLOW (can_name 1 k.0) _ x.0 k.2 in
      let both : (k.0, s.0) ≡ a = cc (room.1, s.2) in
      subst (AsksDir w) both (record { is_task = k.1; home = s.1; may = may_make w f.dir f.entry Dir u.0 u.1 })

  -- it hangs in the directory above, which isn't removed; a task of S may make it in a directory that S sees
  pub dir_whole : {T : Part → Type 0} {w : World} → Sound w → (name : List ℕ) → f.entry ≡ Some name → (a : Task × Name) → AsksDir w a → LeadsUp (nodes_of w) f.dir → T (BodyOf f.dir) → T (EmptyOf f.dir) → ((S : ℕ → Bool) → S t ≡ true → Seen S w f.dir)
      → Whole t (Full w t T) w w (making_dir t f a)
  dir_whole s name named a m up body empty seen =
      rw named
      (entered_whole good s t a.0 m.is_task a.1 f.dir m.home name (rw named at m.may) up (asked_node Dir f (fresh t a.0)) node refl refl (dir_hangs f.dir f.owner f.group f.mode) body empty seen)

  -- where S sees the entries of the directory above, all that is asked is the same
  pub making_dir_same : {S : ℕ → Bool} {v w : World} → Agree S v w → S t ≡ true → Sees S v (BodyOf f.dir) → making_dir_asks w t f ≡ making_dir_asks v t f
  making_dir_same a ours sees =
      first_same _ _ _ _ (makes_same a f.dir f.entry Dir sees) (λ u may.
      first_same _ _ _ _ (on_same _ _ _ _ _ (same_tasks a t ours) (λ x e. refl)) (λ x room.
      on_same _ _ _ _ _ (home_same a f.dir sees.0) (λ s e. refl)))

  pub making_dir_plain : (w : World) → IsPlain (making_dir_asks w t f)
  making_dir_plain w =
      first_plain _ _ (makes_plain w f.dir f.entry Dir) (λ u may.
      first_plain _ _ (on_plain _ _ _ refl (λ x e. given_plain _ _ _ refl (λ room. ok_plain _))) (λ x room.
      on_plain _ _ _ refl (λ s e. ok_plain _)))
