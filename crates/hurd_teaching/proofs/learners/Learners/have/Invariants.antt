use Rattle.std.proofs.Common.{◌≡◌, false, take}
use Rattle.hurd_sight.specs.Reach.{among}
use Rattle.hurd_teaching.proofs.learners.Learners.have.Given as goal

-- none so far
abbrev pub invariant-loop-own : goal.invariant-loop-own
invariant-loop-own l = among (take l.own-index l.self.tasks.items) l.task.0 ≡ false
