-- The ids that a set of tasks may act with, and what it could do with them.
use Rattle.std.specs.Prelude.{◌≡◌, ◌↔◌, ◌⊎◌, ℕ, ◌||◌, ◌&&◌, not, nat_eq, Bool, true, false, List, Option, Some, None, slice_get}
use Rattle.std.specs.List.{list_any}
use Rattle.std.specs.FinSet as set
use Rattle.hurd_creds.specs.declared.name.TaskId.{TaskId}
use Rattle.hurd_creds.specs.declared.attrs.Attrs.{Attrs}
use Rattle.hurd_creds.specs.declared.attrs.Want.{Want}
use Rattle.hurd_creds.specs.Access.{IdSets, USE_UNK, group_bit, has_no_uids, holds_gid, holds_uid, others_bit, owns, unknown_bit}
use Rattle.hurd_creds.specs.Bits.{has_bits}
use Rattle.hurd_trans_iface.specs.Nodes.{Header}
use Rattle.hurd_ports.specs.declared.table.Right.{Right}
use Rattle.hurd_ports.specs.declared.table.Right.TheVariants.{Io, Control, Start}
use Rattle.hurd_ports.specs.Tables.{Task, rights_of}
use Rattle.hurd_machine.specs.World.{World}
use Rattle.hurd_machine.specs.Sight.{Could, HasUid, HasGid, bare}

-- the tasks of a list, as a set
abbrev pub among : List TaskId → ℕ → Bool
among tasks t = list_any (λ (x : TaskId). nat_eq x.0 t) tasks

-- whether a right holds an id, by what its ids hold
abbrev pub right_holds : (IdSets → Bool) → Right → Bool
right_holds holds (Io r) = holds r.ids
right_holds holds (Control s) = false
right_holds holds (Start n) = false

-- whether a task holds an id, or a right of its does
abbrev pub task_holds : (IdSets → Bool) → Task → Bool
task_holds holds x = holds x.ids || list_any (right_holds holds) (rights_of x)

abbrev pub holds_at : (IdSets → Bool) → Option Task → Bool
holds_at holds None = false
holds_at holds (Some x) = task_holds holds x

-- whether one of some tasks holds an id, or a right of one does
abbrev pub some_holds : (IdSets → Bool) → List Task → List TaskId → Bool
some_holds holds ts tasks = list_any (λ (t : TaskId). holds_at holds (slice_get ts t.0)) tasks

-- the ids that are held after something are those that were held before it, and the more that it says
pub record Gains (old new : IdSets) (more : (IdSets → Bool) → Bool) : Type 0 where
  pub uids : (u : ℕ) → holds_uid new u ≡ (holds_uid old u || more (λ i. holds_uid i u))
  pub gids : (g : ℕ) → holds_gid new g ≡ (holds_gid old g || more (λ i. holds_gid i g))

-- the ids that the tasks of a list hold, and their rights
pub record Gathers (ts : List Task) (tasks : List TaskId) (ids : IdSets) : Type 0 where
  pub uids : (u : ℕ) → holds_uid ids u ≡ some_holds (λ i. holds_uid i u) ts tasks
  pub gids : (g : ℕ) → holds_gid ids g ≡ some_holds (λ i. holds_gid i g) ts tasks

-- all that a set of tasks can act with
pub record Reaches (S : ℕ → Bool) (w : World) (ids : IdSets) : Type 0 where
  pub uids : (u : ℕ) → (holds_uid ids u ≡ true) ↔ HasUid S w u
  pub gids : (g : ℕ) → (holds_gid ids g ≡ true) ↔ HasGid S w g

-- whether 0 is among these uids, or one of a server's
abbrev pub serves : IdSets → IdSets → Bool
serves ids served = holds_uid ids 0 || list_any (holds_uid ids) (set.items served.uids)

-- one of these uids is a server's, or 0
abbrev pub Serves : IdSets → IdSets → Type 0
Serves ids served = (u : ℕ) × (holds_uid ids u ≡ true) × ((holds_uid served u ≡ true) ⊎ (u ≡ 0))

-- whether the others' bits allow it, or the group's where its group is held
abbrev pub others_or_group : IdSets → Attrs → Want → Bool
others_or_group ids a want = has_bits a.mode.0 (others_bit want) || (holds_gid ids a.group && has_bits a.mode.0 (group_bit want))

-- who could do this with a node of these attributes, and may leave ids out: the owner, and uid 0; anybody, without any uid, where the
-- unknown bits decide for such and allow it; and who has a uid, or needs none as the unknown bits don't count, by the others' bits
-- without that group, or by the group's with it
abbrev pub could_with : IdSets → Attrs → Want → Bool
could_with ids a want =
    owns ids a
    || ((has_bits a.mode.0 USE_UNK && has_bits a.mode.0 (unknown_bit want))
    || (not (has_no_uids ids && has_bits a.mode.0 USE_UNK) && others_or_group ids a want))

-- these tests say what a set of tasks could do, with any ids that are taken from those that it reaches
abbrev pub CouldIsEnough : Type 0
CouldIsEnough =
    (S : ℕ → Bool) (w : World) (ids : IdSets) (h : Header) (want : Want) → Reaches S w ids
    → (could_with ids (bare h) want ≡ true) ↔ Could S w h want

-- what some tasks and their rights hold is what the set of these tasks can act with, in a world of these tasks
abbrev pub ReachIsGathered : Type 0
ReachIsGathered = (w : World) (tasks : List TaskId) (ids : IdSets) → Gathers w.tasks tasks ids → Reaches (among tasks) w ids
