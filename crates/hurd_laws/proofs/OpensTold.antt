-- Replies of the calls on opens, and on ports that share one, tell no names.
use Rattle.std.proofs.Common.{◌≡◌, ℕ, Ok, not, refl, ap}
use Rattle.std.specs.Prelude.{ℤ, pos, ◌+ℤ◌}
use Rattle.hurd_machine.proofs.Common.{EISDIR, IdSets, IoRight, Name, OpenFlags, READ, Task, World, any_mode, is_dir}
use Rattle.hurd_machine.specs.declared.call.Reply.TheVariants.{Same}
use Rattle.hurd_machine.specs.declared.call.Whence.{Whence}
use Rattle.hurd_machine.specs.declared.call.Whence.TheVariants.{Current, End, Set}
use Rattle.hurd_machine.specs.declared.handle.Handle.{Handle}
use Rattle.hurd_machine.specs.Plan.{given}
use Rattle.hurd_machine.specs.Renamed.{OtherNames, io_renamed, renamed}
use Rattle.hurd_machine.proofs.RenamedAsks.{readable_at-renamed}
use Rattle.hurd_machine.proofs.RenamedHandles.{both_asks-renamed, both_renamed, handle_asks-renamed, handle_renamed, named_renamed, port_asks-renamed}
use Rattle.hurd_machine.proofs.RenamedMaps.{same_name-renamed}
use Rattle.hurd_machine.proofs.RenamedPlans.{answer_renamed, answered-given, answered-renamed, first-given, first-renamed, first-told, looks-renamed}
use Rattle.hurd_io.specs.Opens.{origin, place_asks, plan_get_openmodes, plan_readable, plan_seek, plan_set_openmodes, readable_asks, seek_asks}
use Rattle.hurd_io.specs.Sharing.{ids_among, ids_of_port, ids_of_task, plan_duplicate, plan_identity, plan_reauthenticate, plan_restrict_auth, plan_share, share_asks}
use Rattle.hurd_laws.proofs.CoreRenamed.{caller_renamed, room_asks-renamed}

module _ (f : OtherNames) where
  -- an open with another name, and a place in it
  abbrev pub sought_renamed : Name × ℕ → Name × ℕ
  sought_renamed s = (f.to s.0, s.1)

  -- a right that is shared with other names, and the task that shares it
  abbrev pub shared_renamed : IoRight × Task → IoRight × Task
  shared_renamed a = (io_renamed f.to a.0, caller_renamed f a.1)

  pub origin-renamed : (whence : Whence) (a : Handle) → origin whence (handle_renamed f a) ≡ origin whence a
  origin-renamed Set a = refl
  origin-renamed Current a = refl
  origin-renamed End a = refl

  module _ (w : World) (t : ℕ) where
    pub seek_asks-renamed : (p : ℕ) (offset : ℤ) (whence : Whence) → seek_asks (renamed f w) t p offset whence ≡ answer_renamed sought_renamed (seek_asks w t p offset whence)
    seek_asks-renamed p offset whence = first-renamed (handle_renamed f) sought_renamed _ _ _ (handle_asks-renamed f w t p any_mode) (λ a.
        first-given sought_renamed _ _ (ap (λ (n : ℕ). place_asks (pos n +ℤ offset)) (origin-renamed whence a)) (λ at. refl))

    pub readable_asks-renamed : (p : ℕ) → readable_asks (renamed f w) t p ≡ readable_asks w t p
    readable_asks-renamed p = first-told (handle_renamed f) _ _ _ (handle_asks-renamed f w t p READ) (λ a.
        ap (λ (n : ℕ). given EISDIR (not (is_dir a.kind)) (Ok n)) (readable_at-renamed f w a.node a.opened.cursor))

    pub share_asks-renamed : f.more t ≡ 0 → (p : ℕ) → share_asks (renamed f w) t p ≡ answer_renamed shared_renamed (share_asks w t p)
    share_asks-renamed none p = first-renamed (named_renamed f) shared_renamed _ _ _ (port_asks-renamed f w t p) (λ n.
        first-renamed (caller_renamed f) shared_renamed _ _ _ (room_asks-renamed f w t none 0) (λ x. refl))

module _ (f : OtherNames) (w : World) (t : ℕ) where
  pub seek_told : (p : ℕ) (offset : ℤ) (whence : Whence) → (plan_seek (renamed f w) t p offset whence).reply ≡ (plan_seek w t p offset whence).reply
  seek_told p offset whence = answered-renamed (sought_renamed f) _ _ _ (seek_asks-renamed f w t p offset whence) (λ s. refl)

  pub readable_told : (p : ℕ) → (plan_readable (renamed f w) t p).reply ≡ (plan_readable w t p).reply
  readable_told p = answered-given _ _ (readable_asks-renamed f w t p) (λ n. refl)

  pub get_openmodes_told : (p : ℕ) → (plan_get_openmodes (renamed f w) t p).reply ≡ (plan_get_openmodes w t p).reply
  get_openmodes_told p = looks-renamed (handle_renamed f) _ _ _ (handle_asks-renamed f w t p any_mode) (λ a. refl)

  pub set_openmodes_told : (p : ℕ) (flags : OpenFlags) → (plan_set_openmodes (renamed f w) t p flags).reply ≡ (plan_set_openmodes w t p flags).reply
  set_openmodes_told p flags = answered-renamed (handle_renamed f) _ _ _ (handle_asks-renamed f w t p any_mode) (λ a. refl)

  pub identity_told : (p q : ℕ) → (plan_identity (renamed f w) t p q).reply ≡ (plan_identity w t p q).reply
  identity_told p q = looks-renamed (both_renamed f) _ _ _ (both_asks-renamed f w t p q) (λ a. ap Same (same_name-renamed f a.0.right.node a.1.right.node))

  -- one port more, whatever its ids

  module _ (none : f.more t ≡ 0) where
    pub share_told : (p : ℕ) (ids : IdSets → IdSets → IdSets) → (plan_share (renamed f w) t p ids).reply ≡ (plan_share w t p ids).reply
    share_told p ids = answered-renamed (shared_renamed f) _ _ _ (share_asks-renamed f w t none p) (λ a. refl)

    pub duplicate_told : (p : ℕ) → (plan_duplicate (renamed f w) t p).reply ≡ (plan_duplicate w t p).reply
    duplicate_told p = share_told p ids_of_port

    pub reauthenticate_told : (p : ℕ) → (plan_reauthenticate (renamed f w) t p).reply ≡ (plan_reauthenticate w t p).reply
    reauthenticate_told p = share_told p ids_of_task

    pub restrict_auth_told : (p : ℕ) (asked : IdSets) → (plan_restrict_auth (renamed f w) t p asked).reply ≡ (plan_restrict_auth w t p asked).reply
    restrict_auth_told p asked = share_told p (ids_among asked)
