use Rattle.std.proofs.Common.{[], ◌∷◌, take}
use Rattle.hurd_core.specs.Core.{world_of}
use Rattle.hurd_can.specs.Remembered.{Each, Remembers}
use Rattle.hurd_can.proofs.remembering.remember.Given as goal

-- those before this one were asked
abbrev pub invariant-loop-task : goal.invariant-loop-task
invariant-loop-task g l = Each (Remembers (world_of g.S.Server.meaning l.core ∷ []) l.last (take l.task-index l.tasks)) l.fn.all.items l.all.items
