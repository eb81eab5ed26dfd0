-- What a sitting keeps.
use Rattle.std.specs.Prelude.{◌≡◌, ℕ, List, Option}
use Rattle.hurd_kinds.specs.Boxes.{box_meaning}
use Rattle.hurd_machine.specs.World.{World}
use Rattle.hurd_world.specs.Held.{world_of}
use Rattle.hurd_sitting.specs.declared.sitting.Sitting.{Sitting}
use Rattle.hurd_teaching.specs.declared.learners.Learners.{Learners}

-- what its last text told
abbrev pub told_in : Sitting → List ℕ
told_in sitting = sitting.told.items

-- its world
abbrev pub world_in : Sitting → World
world_in sitting = world_of box_meaning sitting.stage.world

-- who is told what they learn, if anybody
abbrev pub learners_in : Sitting → Option Learners
learners_in sitting = sitting.stage.learners

-- how many tasks its world has
abbrev pub tasks_in : Sitting → ℕ
tasks_in sitting = sitting.tasks

-- two have the same tasks, and tell the same ones what they learn
abbrev pub SameWatch : Sitting → Sitting → Type 0
SameWatch old new = (learners_in new ≡ learners_in old) × (tasks_in new ≡ tasks_in old)

-- two have the same world with the same tasks, and told the same
abbrev pub SameStand : Sitting → Sitting → Type 0
SameStand old new = (world_in new ≡ world_in old) × (tasks_in new ≡ tasks_in old) × (told_in new ≡ told_in old)
