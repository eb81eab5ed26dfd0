-- What is noted of a look back.
use Rattle.std.specs.Prelude.{◌≡◌, ◌⊎◌, ◌↔◌, true}
use Rattle.hurd_creds.specs.declared.name.TaskId.{TaskId}
use Rattle.hurd_sight.specs.Reach.{among}
use Rattle.hurd_can.specs.Help.{Help}

-- a task is noted as one that saw a part, if this holds; all else stays
pub record NotesIf (P : Type 0) (task : TaskId) (old new : Help) : Type 0 where
  pub part : new.part ≡ old.part
  pub ones : new.ones ≡ old.ones
  pub twos : new.twos ≡ old.twos
  pub before : (d : TaskId) → (among new.before d.0 ≡ true) ↔ ((among old.before d.0 ≡ true) ⊎ ((task ≡ d) × P))
