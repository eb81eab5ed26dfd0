use Rattle.std.proofs.Common.{◌≡◌, take}
use Rattle.hurd_sight.specs.Parts.{rights_held, with_rights}
use Rattle.hurd_sight.proofs.held.RightNames.of.Given as goal

-- the names of the rights of the tasks so far
abbrev pub invariant-loop-task : goal.invariant-loop-task
invariant-loop-task l = l.names ≡ with_rights l.ports.state.opens (rights_held l.ports.state.tasks (take l.task-index l.tasks)) l.initial.names
