-- What becomes of one half of the world is what the machine's changes make of all of it.
use Rattle.std.proofs.Common.{◌≡◌, ◌∙◌, ℕ, Bool, true, false, List, ◌∷◌, Option, Some, None, refl, ap, slice_get}
use Rattle.std.specs.Prelude.{Result, Ok, Err, if◌then◌else◌}
use Rattle.hurd_machine.proofs.Common.{Change, EBADF, EOVERFLOW, ESRCH, EditTask, Errno, IdSets, Io, Control, Start, open_of, Name, NodeState, OpenFlags, PortState, Right, Task, World, answered, can_name, deallocate_at, deallocate_step, dropping, given, has_room, insert_at, insert_step, naming_of, on, or_refuse, right_at, right_in, room_at, room_of, told, with_new_port, without_port, world_from}
use Rattle.hurd_ports.specs.declared.parents.Parent.{Parent}
use Rattle.hurd_ports.specs.Tables.{naming_at, right_of}
use Rattle.hurd_ports.specs.Steps.{dropped}
use Rattle.hurd_machine.specs.declared.call.Reply.TheVariants.{Done}
use Rattle.hurd_machine.specs.Change.{letting_go}
use Rattle.hurd_machine.specs.Plan.{Follows}
use Rattle.hurd_core.specs.Core.{naming_asks, room_asks}
use Rattle.hurd_core.proofs.SettleLaws.{Alike, settled-follows, settled_if}

module _ (N : NodeState) (H : PortState) (t : ℕ) where
  abbrev w : World
  w = world_from N H

  -- a port given up

  module _ (p : ℕ) where
    abbrev whole : PortState → World
    whole K = world_from N K

    abbrev drops : Right → List Change
    drops q = EditTask t (without_port p) ∷ letting_go (open_of q)

    drop_by : (o : Option Right) → Alike whole H drops (λ q. tt {0}) (or_refuse EBADF o) (dropped H t p o)
    drop_by None = (refl, refl)
    drop_by (Some (Io r)) = (refl, refl)
    drop_by (Some (Control s)) = (refl, refl)
    drop_by (Some (Start n)) = (refl, refl)

    drop_at : (o : Option Task) → Alike whole H drops (λ q. tt {0}) (right_at p o) (deallocate_at H t p o)
    drop_at None = (refl, refl)
    drop_at (Some x) = drop_by (right_in p x.ports)

    pub drop-follows : (r : Result (Unit {0}) Errno) (K : PortState) (z : World) → (r, K) ≡ deallocate_step t p H → z ≡ settled_if r (world_from N K)
        → Follows w (answered (right_of H t p) (λ q. record { reply = Done; changes = dropping t p q })) (told (λ u. Done) r) z
    drop-follows r K z is left = settled-follows whole H drops (λ q. tt {0}) (λ u. Done) _ _ (drop_at (slice_get H.tasks t)) r K is z left

  -- the room of a task, asked of its tables and of the world: it has room, or both refuse alike

  pub data Room (k : ℕ) : Type 0 where
    IsRefused : (e : Errno) → room_of H t k ≡ Err e → room_asks w t k ≡ Err e → Room k
    HasRoom : (x : Task) → slice_get H.tasks t ≡ Some x → has_room k x ≡ true → room_of H t k ≡ Ok tt → room_asks w t k ≡ Ok x → Room k

  abbrev asked : ℕ → Option Task → Result Task Errno
  asked k o = on ESRCH o (λ x. given EOVERFLOW (has_room k x) (Ok x))

  abbrev told_room : Bool → Result (Unit {0}) Errno
  told_room b = if b then Ok tt else Err EOVERFLOW

  room_by : (k : ℕ) (o : Option Task) → slice_get H.tasks t ≡ o → Room k
  unfolding on given
  room_by k None at = IsRefused ESRCH (ap (room_at k) at) (ap (asked k) at)
  room_by k (Some x) at = go (has_room k x) refl
    where
      go : (b : Bool) → has_room k x ≡ b → Room k
      go true e = HasRoom x at e (ap (room_at k) at ∙ ap told_room e) (ap (asked k) at ∙ ap (λ (b : Bool). given EOVERFLOW b (Ok x)) e)
      go false e = IsRefused EOVERFLOW (ap (room_at k) at ∙ ap told_room e) (ap (asked k) at ∙ ap (λ (b : Bool). given EOVERFLOW b (Ok x)) e)

  pub room : (k : ℕ) → Room k
  room k = room_by k (slice_get H.tasks t) refl

  -- a task without room is refused as the world refuses it, and one with room asks it
  pub room-refused : (k : ℕ) (e : Errno) → room_of H t k ≡ Err e → room_asks w t k ≡ Err e
  room-refused k e is = elim (room k) [
    | IsRefused f full asks ↦ let same : f ≡ e = cc in asks ∙ ap Err same
    | HasRoom x at full free asks ↦ absurd (cc)
  ]

  pub room-had : (k : ℕ) (u : Unit {0}) → room_of H t k ≡ Ok u → (x : Task) × (slice_get H.tasks t ≡ Some x) × (room_asks w t k ≡ Ok x)
  room-had k u is = elim (room k) [
    | IsRefused f full asks ↦ absurd (cc)
    | HasRoom x at full free asks ↦ (x, at, asks)
  ]

  -- so is one that is to name things

  abbrev asked_names : ℕ → Option Task → Result Task Errno
  asked_names k o = on ESRCH o (λ x. given EOVERFLOW (can_name k x) (Ok x))

  names_full : (k : ℕ) (e : Errno) (o : Option Task) → naming_at k o ≡ Err e → asked_names k o ≡ Err e
  unfolding on given
  names_full k e None h = cc
  names_full k e (Some x) h = go (can_name k x) h
    where
      go : (b : Bool) → told_room b ≡ Err e → given EOVERFLOW b (Ok x) ≡ Err e
      go true h = absurd (cc)
      go false h = cc

  pub naming-refused : (k : ℕ) (e : Errno) → naming_of H t k ≡ Err e → naming_asks w t k ≡ Err e
  naming-refused k e is = names_full k e (slice_get H.tasks t) is

  names_free : (k : ℕ) (u : Unit {0}) (o : Option Task) → slice_get H.tasks t ≡ o → naming_at k o ≡ Ok u → (x : Task) × (slice_get H.tasks t ≡ Some x) × (can_name k x ≡ true) × (asked_names k o ≡ Ok x)
  unfolding on given
  names_free k u None at h = absurd (cc)
  names_free k u (Some x) at h = let free = go (can_name k x) h in (x, at, free, ap (λ (b : Bool). given EOVERFLOW b (Ok x)) free)
    where
      go : (b : Bool) → told_room b ≡ Ok u → b ≡ true
      go true h = refl
      go false h = absurd (cc)

  pub naming-had : (k : ℕ) (u : Unit {0}) → naming_of H t k ≡ Ok u → (x : Task) × (slice_get H.tasks t ≡ Some x) × (can_name k x ≡ true) × (naming_asks w t k ≡ Ok x)
  naming-had k u is = names_free k u (slice_get H.tasks t) refl is

  -- a port opened

  module _ (n : Name) (ids : IdSets) (parents : List Parent) (modes : OpenFlags) where
    abbrev new_ports : Task → PortState
    new_ports x = with_new_port t n ids parents modes x H

    abbrev inserted : Task → Bool → Result ℕ Errno × PortState
    inserted x b = if b then (Ok x.next, new_ports x) else (Err EOVERFLOW, H)

    -- where the task has room, its port is there
    pub insert-had : (x : Task) → slice_get H.tasks t ≡ Some x → has_room 1 x ≡ true → insert_step t n ids parents modes H ≡ (Ok x.next, new_ports x)
    insert-had x at e = ap (insert_at H t n ids parents modes) at ∙ ap (inserted x) e
